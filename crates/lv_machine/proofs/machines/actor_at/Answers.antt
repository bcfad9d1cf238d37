-- Proof of `actor_at`: the state of an actor, if there is one.
use Rattle.std.proofs.Common.{◌≡◌, ◌<◌, ◌≤◌, ℕ, Option, Some, None, option_map, List, length, refl, sym, ◌∙◌, get_or}
use Rattle.std.specs.Prelude.{IfSome, MatchOption, slice_get}
use Rattle.std.specs.List.{HoldsAt}
use Rattle.std.proofs.lemmas.Option.{slice_get_past, slice_get_read}
use Rattle.lv_machine.proofs.machines.actor_at.Goals as goal

-- the result of a look into a row, if there is an element
looked_up : {X R : Type 0} (value : R → X) (found : Option R) (xs : List X) (k : ℕ) → IfSome found (λ x. value x ≡ get_or xs k (value x))
    → MatchOption found (length xs ≤ k) (λ x. (k < length xs) × HoldsAt (λ y. value x ≡ y) xs k) → option_map value found ≡ slice_get xs k
looked_up value None xs k _ past = sym (slice_get_past xs k past)
looked_up value (Some x) xs k is within = sym (slice_get_read xs (length xs) k (value x) refl within.0 is)

pub get-requires : goal.get-requires
get-requires g c κs = (refl, tt)

pub returns : goal.returns
returns g c =
    let row = c.get.ensures.lookup in
    c.copied.ensures ∙ looked_up (λ x. x.now) c.get.result c.args.actors.now c.args.actor row.1 row.3
