-- Times that do not fall, as far as a place.
use Rattle.std.proofs.Common.{◌≡◌, ℕ, ℤ, pos, ◌+◌, ◌-◌, ◌<◌, ◌≤◌, true, false, IsTrue, List, length, slice_index_or, int_le, int_lt, subst, arith, inl, inr}
use Rattle.std.proofs.lemmas.Bool.{cases_lt}
use Rattle.std.proofs.lemmas.Int.{ints}
use Rattle.lv_series.specs.Samples.{IsRising}

-- the time at a place
abbrev pub time_at : List ℤ → ℕ → ℤ
time_at times k = slice_index_or times k (pos 0)

-- those before a place do not fall
pub record RisesBelow (times : List ℤ) (n : ℕ) : Type 0 where
  pub rises : (i j : ℕ) → i ≤ j → j < n → IsTrue (int_le (time_at times i) (time_at times j))

up_to_itself : (t : ℤ) → IsTrue (int_le t t)
up_to_itself t = grind (arith, ints)

up_to_later : (a b t : ℤ) → IsTrue (int_le a b) → int_lt t b ≡ false → IsTrue (int_le a t)
up_to_later a b t le not = grind (arith, ints)

not_up_to : (a b : ℤ) → int_lt b a ≡ true → IsTrue (int_le a b) → ⊥
not_up_to a b lt le = grind (arith, ints)

-- the first one
pub rises_first : (times : List ℤ) → RisesBelow times 1
rises_first times = record { rises = λ i j order below. let same : i ≡ j = omega arith in subst (λ n. IsTrue (int_le (time_at times i) (time_at times n))) same (up_to_itself (time_at times i)) }

-- one more
pub rises_more : (times : List ℤ) (k : ℕ) → 1 ≤ k → RisesBelow times k → int_lt (time_at times k) (time_at times (k - 1)) ≡ false → RisesBelow times (k + 1)
rises_more times k some h not = record {
  rises = λ i j order below.
      elim (cases_lt j k) [
        | inl inside ↦ h.rises i j order inside
        | inr past ↦
            let at : k ≡ j = omega (arith, past, below) in
            subst (λ n. IsTrue (int_le (time_at times i) (time_at times n))) at (
            elim (cases_lt i k) [
              | inl front ↦ up_to_later (time_at times i) (time_at times (k - 1)) (time_at times k) (h.rises i (k - 1) (omega (arith, front)) (omega (arith, some))) not
              | inr behind ↦
                  let same : i ≡ k = omega (arith, behind, order, at) in
                  subst (λ n. IsTrue (int_le (time_at times i) (time_at times n))) same (up_to_itself (time_at times i))
            ]
            )
      ];
}

-- all of them
pub rises_all : (times : List ℤ) (k : ℕ) → length times ≤ k → RisesBelow times k → IsRising times
rises_all times k past h = record { rises = λ i j order inside. h.rises i j order (omega (arith, past, inside)) }

-- one that falls
pub falls : (times : List ℤ) (k : ℕ) → 1 ≤ k → k < length times → int_lt (time_at times k) (time_at times (k - 1)) ≡ true → IsRising times → ⊥
falls times k some inside lt rising = not_up_to (time_at times (k - 1)) (time_at times k) lt (rising.rises (k - 1) k (omega (arith, some)) inside)
