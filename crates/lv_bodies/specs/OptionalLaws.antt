-- The laws of summaries that are missing if there are no elements.
use Rattle.std.specs.Prelude.{◌≡◌, ℕ, ℤ, ◌+◌, ◌^◌, ◌≤◌, Option, Some, None, refl}
use Rattle.std.proofs.Common.{arith, ap}
use Rattle.lv_bodies.specs.Body.{BodyLaws}
use Rattle.lv_bodies.specs.Optional.{IsWithinIfSome, JoinLaws, join_of_both, optional_operations}

module _ {T : Type 0} (lift : ℤ → T) (join : T → T → T) (within : T → ℕ → Type 0) (laws : JoinLaws lift join within) where
  -- what is joined is within the number of both
  joined_within : (s t : Option T) (n m : ℕ) → IsWithinIfSome within s n → IsWithinIfSome within t m → n + m ≤ 2 ^ 20 → IsWithinIfSome within (join_of_both join s t) (n + m)
  joined_within None None n m p q few = q
  joined_within None (Some t) n m p q few = laws.more_within t m (n + m) (omega arith) q
  joined_within (Some s) None n m p q few = laws.more_within s n (n + m) (omega arith) p
  joined_within (Some s) (Some t) n m p q few = laws.join_within s t n m p q few

  -- to join with nothing changes nothing
  joined_right : (s : Option T) → join_of_both join s None ≡ s
  joined_right None = refl
  joined_right (Some s) = refl

  -- of three the first two or the last two may be joined first
  joined_associative : (s t u : Option T) → join_of_both join (join_of_both join s t) u ≡ join_of_both join s (join_of_both join t u)
  joined_associative None t u = refl
  joined_associative (Some s) None u = refl
  joined_associative (Some s) (Some t) None = refl
  joined_associative (Some s) (Some t) (Some u) = ap Some (laws.associative s t u)

  -- such summaries meet the laws of a body
  pub optional_laws : BodyLaws (optional_operations lift join) (IsWithinIfSome within)
  optional_laws = record {
    identity_within = _;
    lift_within = laws.lift_within;
    join_within = joined_within;
    left_identity = λ s n p few. refl;
    right_identity = λ s n p few. joined_right s;
    associative = λ s t u n m k p q r few. joined_associative s t u;
  }
