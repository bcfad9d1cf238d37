-- Summaries that are missing if there are no elements.
use Rattle.std.specs.Prelude.{◌≡◌, ℕ, ℤ, ◌+◌, ◌^◌, ◌≤◌, Option, Some, None, IfSome}
use Rattle.lv_geometry.specs.Elements.{IsElement}
use Rattle.lv_bodies.specs.Body.{Operations}

-- the join of two summaries if both are there; else the one that is there, if any
abbrev pub join_of_both : {T : Type 0} → (T → T → T) → Option T → Option T → Option T
join_of_both join None t = t
join_of_both join (Some s) None = Some s
join_of_both join (Some s) (Some t) = Some (join s t)

-- the operations on summaries that are missing if there are no elements
abbrev pub optional_operations : {T : Type 0} → (ℤ → T) → (T → T → T) → Operations (Option T)
optional_operations lift join = record {
  identity = None;
  lift = λ x. Some (lift x);
  join = join_of_both join;
}

-- what is there keeps the bound for n elements
abbrev pub IsWithinIfSome : {T : Type 0} → (T → ℕ → Type 0) → Option T → ℕ → Type 0
IsWithinIfSome within s n = IfSome s (λ t. within t n)

-- what summaries that are there have to meet
pub record JoinLaws {T : Type 0} (lift : ℤ → T) (join : T → T → T) (within : T → ℕ → Type 0) : Type 0 where
  pub lift_within : (x : ℤ) → IsElement x → within (lift x) 1
  pub join_within : (s t : T) (n m : ℕ) → within s n → within t m → n + m ≤ 2 ^ 20 → within (join s t) (n + m)
  pub more_within : (s : T) (n m : ℕ) → n ≤ m → within s n → within s m
  pub associative : (s t u : T) → join (join s t) u ≡ join s (join t u)
