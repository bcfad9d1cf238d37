-- What the levels have when one of the six was given another thing.
use Rattle.std.proofs.Common.{◌≡◌, ◌≢◌, ℕ, ◌≤◌, if◌then◌else◌, nat_eq, refl, sym, subst, ◌∙◌, inl, inr}
use Rattle.std.proofs.lemmas.Bool.{cases_eq, cond-false, cond-true, eq-eqb, ne_eqb}
use Rattle.lv_geometry.specs.declared.levels.Levels.{Levels}
use Rattle.lv_geometry.specs.Levels.{thing_at, with_thing}
use Rattle.lv_geometry.proofs.NodeLaws.{at_each_level}

-- a level has the other thing, if it is the one that was given it
pub thing_at-with_thing : {T : Type 0} (all : Levels T) (at : ℕ) (x : T) → 1 ≤ at → at ≤ 6 → (level : ℕ) → 1 ≤ level → level ≤ 6 → thing_at (with_thing all at x) level ≡ if nat_eq level at then x else thing_at all level
thing_at-with_thing all at x low high =
    at_each_level (λ at. (level : ℕ) → 1 ≤ level → level ≤ 6 → thing_at (with_thing all at x) level ≡ if nat_eq level at then x else thing_at all level)
    (at_each_level _ refl refl refl refl refl refl)
    (at_each_level _ refl refl refl refl refl refl)
    (at_each_level _ refl refl refl refl refl refl)
    (at_each_level _ refl refl refl refl refl refl)
    (at_each_level _ refl refl refl refl refl refl)
    (at_each_level _ refl refl refl refl refl refl)
    at low high

-- the others keep theirs
pub thing_elsewhere : {T : Type 0} (all : Levels T) (at : ℕ) (x : T) → 1 ≤ at → at ≤ 6 → (level : ℕ) → 1 ≤ level → level ≤ 6 → level ≢ at → thing_at (with_thing all at x) level ≡ thing_at all level
thing_elsewhere all at x low high level above below other =
    thing_at-with_thing all at x low high level above below ∙ cond-false (nat_eq level at) x (thing_at all level) (ne_eqb level at other)

-- what holds of that thing, and of those of the other levels, holds of each level's
pub each_thing : {T : Type 0} (P : ℕ → T → Type 0) (all : Levels T) (at : ℕ) (x : T) → 1 ≤ at → at ≤ 6 → P at x → ((level : ℕ) → 1 ≤ level → level ≤ 6 → level ≢ at → P level (thing_at all level))
    → (level : ℕ) → 1 ≤ level → level ≤ 6 → P level (thing_at (with_thing all at x) level)
each_thing P all at x low high here others level above below =
    elim (cases_eq level at) [
      | inl same ↦
          let is = thing_at-with_thing all at x low high level above below ∙ cond-true (nat_eq level at) x (thing_at all level) (eq-eqb level at same) in
          subst (P level) (sym is) (subst (λ k. P k x) (sym same) here)
      | inr other ↦ subst (P level) (sym (thing_elsewhere all at x low high level above below other)) (others level above below other)
    ]
