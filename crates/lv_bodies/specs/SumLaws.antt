-- The laws of the sum, and that its fold is the plain sum.
use Rattle.std.specs.Prelude.{◌≡◌, ℤ, pos, ◌+◌, ◌%◌, ◌^◌, ◌+ℤ◌, List, refl}
use Rattle.std.proofs.Common.{arith, ap, ◌∙◌, sym}
use Rattle.std.proofs.lemmas.List.Folds.{fold_along}
use Rattle.lv_bodies.specs.Body.{BodyLaws, fold_of}
use Rattle.lv_bodies.specs.Plain.{plain_sum, remainder}
use Rattle.lv_bodies.specs.Sums.{IsSum, sum_operations}
use Rattle.lv_bodies.specs.RemainderLaws.{remainder_below, remainder-add}

-- the sum meets the laws of a body
pub sum_laws : BodyLaws sum_operations IsSum
sum_laws = record {
  identity_within = omega arith;
  lift_within = λ x h. remainder_below x (2 ^ 64) (omega arith);
  join_within = λ s t n m a b few. omega arith;
  left_identity = λ s n a few. omega arith;
  right_identity = λ s n a few. omega arith;
  associative = λ s t u n m k a b c few. omega arith;
}

-- the fold is the total, modulo 2 ^ 64
pub fold_of-sum : (xs : List ℤ) → fold_of sum_operations xs ≡ plain_sum xs
fold_of-sum xs =
    fold_along (λ s x. (s + remainder x (2 ^ 64)) % 2 ^ 64) ◌+ℤ◌ (λ s z. s ≡ remainder z (2 ^ 64))
    (λ s z x e. ap (λ r. (r + remainder x (2 ^ 64)) % 2 ^ 64) e ∙ sym (remainder-add z x (2 ^ 64) (omega arith)))
    0 (pos 0) xs refl
