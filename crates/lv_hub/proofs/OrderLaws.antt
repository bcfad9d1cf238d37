-- A stable sort by version keeps the order of the reductions at each version.
use Rattle.std.proofs.Common.{◌≡◌, ℕ, Bool, ◌&&◌, not, List, filter, nat_eq, nat_lt, sym, ap, ◌∙◌, inl, inr, arith}
use Rattle.std.specs.List.Sorted.{IsStableByKey}
use Rattle.std.specs.Ordering.{is_lt, nat_cmp}
use Rattle.std.proofs.slice.Orders.{nat_cmp-ltb}
use Rattle.std.proofs.lemmas.Bool.{cases_lt, eq-eqb, le-ltb, lt-ltb, ne_eqb}
use Rattle.lv_bodies.specs.declared.kinds.Kind.TheVariants.{Sum}
use Rattle.lv_bodies.specs.declared.kinds.Shown.TheVariants as shown
use Rattle.lv_transcript.specs.declared.claimed.Claimed.{Claimed}
use Rattle.lv_hub.specs.Session.{KeepTies}

-- neither of two numbers is less than the other if and only if they are equal
ties_are_equal : (a b : ℕ) → (not (is_lt (nat_cmp a b)) && not (is_lt (nat_cmp b a))) ≡ nat_eq b a
ties_are_equal a b =
    (λ i. not (nat_cmp-ltb a b i) && not (nat_cmp-ltb b a i))
    ∙ elim (cases_lt a b) [
      | inl less ↦ (λ i. not (lt-ltb a b less i) && not (nat_lt b a)) ∙ sym (ne_eqb b a (omega arith))
      | inr least ↦ elim (cases_lt b a) [
        | inl less ↦ (λ i. not (le-ltb a b least i) && not (lt-ltb b a less i)) ∙ sym (ne_eqb b a (omega arith))
        | inr most ↦ (λ i. not (le-ltb a b least i) && not (le-ltb b a most i)) ∙ sym (eq-eqb b a (omega arith))
      ]
    ]

-- a stable sort by version keeps the order of the reductions at each version
pub ties_kept : (old new : List Claimed) → IsStableByKey (λ (reduction : Claimed). reduction.edit) nat_cmp old new → KeepTies old new
ties_kept old new stable = λ edit.
    let one : Claimed = record { edit = edit; kind = Sum; lo = 0; hi = 0; value = shown.Sum 0 } in
    ap (λ (test : Claimed → Bool). filter test new) (λ i reduction. sym (ties_are_equal edit reduction.edit) i)
    ∙ stable one
    ∙ ap (λ (test : Claimed → Bool). filter test old) (λ i reduction. ties_are_equal edit reduction.edit i)
