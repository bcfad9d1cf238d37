-- How many of some numbers pass a test, and sums over numbers.
use Rattle.std.proofs.Common.{◌≡◌, ℕ, zero, suc, ◌+◌, ◌-◌, ◌*◌, ◌/◌, ◌%◌, ◌<◌, ◌≤◌, Bool, true, false, cond, ◌⊎◌, count_by, sum_by, refl, sym, ap, ◌∙◌, add-one, inl, inr, arith}
use Rattle.std.specs.List.{range_with_len}
use Rattle.std.proofs.lemmas.Bool.{cases_Bool, cases_eq, cases_lt, cond-false, cond-true, false_from_ne_true}
use Rattle.std.proofs.lemmas.List.Sums.{sum_by-cons, sum_by_push}
use Rattle.std.proofs.lemmas.Nat.{mul-le}
use Rattle.std.proofs.Math.Nat.{mul-mod_left}
use Rattle.lv_geometry.proofs.Ranges.{below_more}
use Rattle.lv_reduce.proofs.NodeLaws.{multiples_apart}

-- how many of the numbers below n pass a test
pub passes_below : (ℕ → Bool) → ℕ → ℕ
passes_below p n = count_by p (range_with_len 0 n)

-- this is that count
pub passes_below-is : (p : ℕ → Bool) (n : ℕ) → count_by p (range_with_len 0 n) ≡ passes_below p n
unfolding passes_below
passes_below-is p n = refl

-- one number more
pub passes_below-next : (p : ℕ → Bool) (n : ℕ) → passes_below p (n + 1) ≡ passes_below p n + cond (p n) 1 0
unfolding passes_below
passes_below-next p n = ap (count_by p) (below_more n) ∙ sum_by_push (λ x. cond (p x) 1 0) (range_with_len 0 n) n

-- one number more, written as a successor
passes_next : (p : ℕ → Bool) (n : ℕ) → passes_below p (suc n) ≡ passes_below p n + cond {A = ℕ} (p n) 1 0
passes_next p n = rw add-one at (passes_below-next p n)

-- none pass below 0
pub passes_below-none : (p : ℕ → Bool) → passes_below p 0 ≡ 0
unfolding passes_below
passes_below-none p = refl

-- numbers that fail count for nothing
pub passes_none : (p : ℕ → Bool) (a n : ℕ) → ((i : ℕ) → a ≤ i → i < a + n → p i ≡ false) → passes_below p (a + n) ≡ passes_below p a
passes_none p a zero fail = ap (passes_below p) (omega arith)
passes_none p a (suc n) fail =
    let last : p (a + n) ≡ false = fail (a + n) (omega arith) (omega arith) in
    let count : cond {A = ℕ} (p (a + n)) 1 0 ≡ 0 = cond-false (p (a + n)) 1 0 last in
    let next : a + suc n ≡ a + n + 1 = omega arith in
    ap (passes_below p) next ∙ omega (arith, passes_below-next p (a + n), passes_none p a n (λ i from below. fail i from (omega arith)))

-- if all fail, none is counted
pub passes_nowhere : (p : ℕ → Bool) (n : ℕ) → ((i : ℕ) → i < n → p i ≡ false) → passes_below p n ≡ 0
passes_nowhere p n fail =
    let from : 0 + n ≡ n = omega arith in
    ap (passes_below p) (sym from) ∙ passes_none p 0 n (λ i low below. fail i (omega arith)) ∙ passes_below-none p

-- if only the first of some numbers passes, one is counted
pub passes_first : (p : ℕ → Bool) (a n : ℕ) → 1 ≤ n → p a ≡ true → ((i : ℕ) → a < i → i < a + n → p i ≡ false) → passes_below p (a + n) ≡ passes_below p a + 1
passes_first p a n some first fail =
    let count : cond {A = ℕ} (p a) 1 0 ≡ 1 = cond-true (p a) 1 0 first in
    let split : a + n ≡ a + 1 + (n - 1) = omega arith in
    ap (passes_below p) split ∙ omega (arith, passes_none p (a + 1) (n - 1) (λ i from below. fail i (omega arith) (omega arith)), passes_below-next p a)

-- if all of some numbers stay, their sum stays
pub all_stay : (f g : ℕ → ℕ) (from n : ℕ) → ((l : ℕ) → from ≤ l → l < from + n → g l ≡ f l) → sum_by g (range_with_len from n) ≡ sum_by f (range_with_len from n)
all_stay f g from zero same = refl
all_stay f g from (suc n) same =
    let rest = all_stay f g (from + 1) n (λ l low high. same l (omega arith) (omega arith)) in
    let first : g from ≡ f from = same from (omega arith) (omega arith) in
    omega (arith, rest, first, sum_by-cons f from (range_with_len (from + 1) n), sum_by-cons g from (range_with_len (from + 1) n))

-- if one of some numbers is greater by one and the others stay, their sum is greater by one
pub one_greater : (f g : ℕ → ℕ) (from n k : ℕ) → from ≤ k → k < from + n → g k ≡ f k + 1 → ((l : ℕ) → from ≤ l → l < from + n → (l ≡ k → ⊥) → g l ≡ f l) → sum_by g (range_with_len from n) ≡ sum_by f (range_with_len from n) + 1
one_greater f g from zero k low high here others = absurd (omega arith)
one_greater f g from (suc n) k low high here others =
    elim (cases_eq from k) [
      | inl same ↦
          let first : g from ≡ f from + 1 = rw same here in
          let rest = all_stay f g (from + 1) n (λ l low high. others l (omega arith) (omega arith) (λ is. absurd (omega arith))) in
          omega (arith, rest, first, sum_by-cons f from (range_with_len (from + 1) n), sum_by-cons g from (range_with_len (from + 1) n))
      | inr other ↦
          let first : g from ≡ f from = others from (omega arith) (omega arith) other in
          let rest = one_greater f g (from + 1) n k (omega arith) (omega arith) here (λ l low high. others l (omega arith) (omega arith)) in
          omega (arith, rest, first, sum_by-cons f from (range_with_len (from + 1) n), sum_by-cons g from (range_with_len (from + 1) n))
    ]

-- one number counts for one at most
one_next : (p : ℕ → Bool) (n : ℕ) → passes_below p (n + 1) ≤ passes_below p n + 1
one_next p n =
    elim (cases_Bool (p n)) [
      | inl passes ↦ let count : cond {A = ℕ} (p n) 1 0 ≡ 1 = cond-true (p n) 1 0 passes in omega (arith, passes_below-next p n)
      | inr fails ↦ let count : cond {A = ℕ} (p n) 1 0 ≡ 0 = cond-false (p n) 1 0 fails in omega (arith, passes_below-next p n)
    ]

-- each further number counts for one at most
pub passes_more : (p : ℕ → Bool) (a n : ℕ) → passes_below p (a + n) ≤ passes_below p a + n
passes_more p a zero = let same : a + zero ≡ a = omega arith in omega (arith, ap (passes_below p) same)
passes_more p a (suc n) =
    let next : a + suc n ≡ a + n + 1 = omega arith in
    omega (arith, ap (passes_below p) next, passes_more p a n, one_next p (a + n))

-- the count of more numbers is no less
pub passes_mono : (p : ℕ → Bool) (a n : ℕ) → passes_below p a ≤ passes_below p (a + n)
passes_mono p a zero = let same : a + zero ≡ a = omega arith in omega (arith, ap (passes_below p) same)
passes_mono p a (suc n) =
    let next : a + suc n ≡ a + n + 1 = omega arith in
    omega (arith, ap (passes_below p) next, passes_mono p a n, passes_below-next p (a + n))

-- what passes one test passes one of two others, so there are no more of it
pub passes_either : (p q r : ℕ → Bool) (n : ℕ) → ((i : ℕ) → i < n → p i ≡ true → (q i ≡ true) ⊎ (r i ≡ true)) → passes_below p n ≤ passes_below q n + passes_below r n
passes_either p q r zero either = omega (arith, passes_below-none p)
passes_either p q r (suc n) either =
    let before = passes_either p q r n (λ i below. either i (omega arith)) in
    elim (cases_Bool (p n)) [
      | inr fails ↦
          let count : cond {A = ℕ} (p n) 1 0 ≡ 0 = cond-false (p n) 1 0 fails in
          omega (arith, before, passes_next p n, passes_next q n, passes_next r n)
      | inl passes ↦
          let count : cond {A = ℕ} (p n) 1 0 ≡ 1 = cond-true (p n) 1 0 passes in
          elim (either n (omega arith) passes) [
            | inl first ↦
                let one : cond {A = ℕ} (q n) 1 0 ≡ 1 = cond-true (q n) 1 0 first in
                omega (arith, before, passes_next p n, passes_next q n, passes_next r n)
            | inr second ↦
                let one : cond {A = ℕ} (r n) 1 0 ≡ 1 = cond-true (r n) 1 0 second in
                omega (arith, before, passes_next p n, passes_next q n, passes_next r n)
          ]
    ]

-- if all numbers that pass are at or above one, there are at most as many as there are numbers from that one on
passes_from : (p : ℕ → Bool) (n from : ℕ) → ((i : ℕ) → i < n → p i ≡ true → from ≤ i) → passes_below p n ≤ n - from
passes_from p zero from inside = omega (arith, passes_below-none p)
passes_from p (suc n) from inside =
    let before = passes_from p n from (λ i below. inside i (omega arith)) in
    elim (cases_Bool (p n)) [
      | inl passes ↦
          let there : from ≤ n = inside n (omega arith) passes in
          let count : cond {A = ℕ} (p n) 1 0 ≡ 1 = cond-true (p n) 1 0 passes in
          omega (arith, before, passes_next p n)
      | inr fails ↦ let count : cond {A = ℕ} (p n) 1 0 ≡ 0 = cond-false (p n) 1 0 fails in omega (arith, before, passes_next p n)
    ]

-- if all numbers that pass are at or above one and below another, there are at most as many as these two differ by
pub passes_within : (p : ℕ → Bool) (n from width : ℕ) → ((i : ℕ) → i < n → p i ≡ true → (from ≤ i) × (i < from + width)) → passes_below p n ≤ width
passes_within p n from width inside =
    elim (cases_lt (from + width) n) [
      | inr all ↦ omega (arith, passes_from p n from (λ i below passes. (inside i below passes).0))
      | inl past ↦
          let split : from + width + (n - (from + width)) ≡ n = omega arith in
          let rest = passes_none p (from + width) (n - (from + width)) (λ i low high. false_from_ne_true _ (λ passes. absurd (omega (arith, (inside i (omega arith) passes).1)))) in
          omega (arith, ap (passes_below p) split, rest, passes_from p (from + width) from (λ i below passes. (inside i (omega arith) passes).0))
    ]

-- a test of the eighth of a number counts each eighth eight times at most
pub passes_eighths : (p : ℕ → Bool) (n : ℕ) → passes_below (λ i. p (i / 8)) (8 * n) ≤ 8 * passes_below p n
passes_eighths p zero = omega (arith, passes_below-none (λ i. p (i / 8)))
passes_eighths p (suc n) =
    let next : 8 * suc n ≡ 8 * n + 8 = omega arith in
    let all = ap (passes_below (λ i. p (i / 8))) next in
    elim (cases_Bool (p n)) [
      | inl passes ↦
          let count : cond {A = ℕ} (p n) 1 0 ≡ 1 = cond-true (p n) 1 0 passes in
          omega (arith, all, passes_eighths p n, passes_more (λ i. p (i / 8)) (8 * n) 8, passes_next p n)
      | inr fails ↦
          let count : cond {A = ℕ} (p n) 1 0 ≡ 0 = cond-false (p n) 1 0 fails in
          let none = passes_none (λ i. p (i / 8)) (8 * n) 8 (λ i low high. let eighth : i / 8 ≡ n = omega arith in ap p eighth ∙ fails) in
          omega (arith, all, passes_eighths p n, none, passes_next p n)
    ]

-- below a multiple, a test that only multiples pass counts them
passes_below_multiple : (p : ℕ → Bool) (w n : ℕ) → 1 ≤ w → ((i : ℕ) → p i ≡ true → i % w ≡ 0) → passes_below p (n * w) ≡ passes_below (λ k. p (k * w)) n
passes_below_multiple p w zero some aligned = let none : zero * w ≡ 0 = omega arith in ap (passes_below p) none ∙ passes_below-none p ∙ sym (passes_below-none (λ k. p (k * w)))
passes_below_multiple p w (suc n) some aligned =
    let next : suc n * w ≡ n * w + 1 + (w - 1) = omega arith in
    let others = passes_none p (n * w + 1) (w - 1) (λ i low high. false_from_ne_true _ (λ passes. absurd (omega (arith, multiples_apart w (n * w) i (mul-mod_left n w) (aligned i passes) (omega arith))))) in
    omega (arith, ap (passes_below p) next, others, passes_below-next p (n * w), passes_next (λ k. p (k * w)) n, passes_below_multiple p w n some aligned)

-- so it counts no more of any numbers than of their multiples
pub passes_multiples : (p : ℕ → Bool) (w n : ℕ) → 1 ≤ w → ((i : ℕ) → p i ≡ true → i % w ≡ 0) → passes_below p n ≤ passes_below (λ k. p (k * w)) n
passes_multiples p w n some aligned =
    let longer : n + (n * w - n) ≡ n * w = omega (arith, mul-le n 1 n w (omega arith) some) in
    omega (arith, passes_mono p n (n * w - n), ap (passes_below p) longer, passes_below_multiple p w n some aligned)
