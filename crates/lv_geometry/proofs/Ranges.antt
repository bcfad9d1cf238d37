-- The element at an index. Numbers in a row: one more of them, the greatest value at any of them, and the first and the last that pass a test.
use Rattle.std.proofs.Common.{◌≡◌, ℕ, zero, suc, ◌+◌, ◌<◌, ◌≤◌, max, Bool, true, false, cond, if◌then◌else◌, Some, [], ◌∷◌, ◌++◌, length, map, fold, slice_get, List, refl, sym, ap, ◌∙◌, add-one, inl, inr, arith}
use Rattle.std.specs.List.{find, range_with_len}
use Rattle.std.proofs.lemmas.Bool.{cases_Bool, cases_lt, cond-false, cond-true}
use Rattle.std.proofs.lemmas.List.{map-id}
use Rattle.std.proofs.lemmas.Option.{slice_get_cases}
use Rattle.std.proofs.lemmas.List.FromFn.{map-range_with_len_more}
use Rattle.std.proofs.lemmas.List.Sums.{fold_push}

-- there is an element at each index
pub there_is : {A : Type 0} (xs : List A) (i : ℕ) → i < length xs → (x : A) × (slice_get xs i ≡ Some x)
there_is xs i inside =
    elim ((slice_get_cases xs i).1) [ inl (x, _, is, _) ↦ (x, is) | inr (past, _) ↦ absurd (omega arith) ]

-- one number more
pub range_more : (a n : ℕ) → range_with_len a (n + 1) ≡ range_with_len a n ++ (a + n) ∷ []
range_more a n = sym (map-id _) ∙ map-range_with_len_more (λ x. x) a n (a + n) refl ∙ ap (λ xs. xs ++ (a + n) ∷ []) (map-id _)

-- the numbers below n + 1 are those below n, and then n
pub below_more : (n : ℕ) → range_with_len 0 (n + 1) ≡ range_with_len 0 n ++ n ∷ []
below_more n = sym (map-id _) ∙ map-range_with_len_more (λ x. x) 0 n n (omega arith) ∙ ap (λ xs. xs ++ n ∷ []) (map-id _)

-- the greatest value of a function at the n numbers from a on, or 0 if there are none
unfoldable pub greatest : (ℕ → ℕ) → ℕ → ℕ → ℕ
greatest f a n = fold (λ most j. max most (f j)) 0 (range_with_len a n)

-- the greatest value is 0 if there are no numbers
pub greatest-none : (f : ℕ → ℕ) (a : ℕ) → greatest f a 0 ≡ 0
unfolding greatest
greatest-none f a = refl

-- one number more
pub greatest-next : (f : ℕ → ℕ) (a n : ℕ) → greatest f a (n + 1) ≡ max (greatest f a n) (f (a + n))
unfolding greatest
greatest-next f a n = ap (fold (λ most j. max most (f j)) 0) (range_more a n) ∙ fold_push _ 0 (range_with_len a n) (a + n)

-- the greatest value with one more number, stated with `suc n`
greatest-more : (f : ℕ → ℕ) (a n : ℕ) → greatest f a (suc n) ≡ max (greatest f a n) (f (a + n))
greatest-more f a n = rw add-one at (greatest-next f a n)

-- functions that agree at the numbers have one greatest value there
pub greatest_same : (f g : ℕ → ℕ) (a n : ℕ) → ((j : ℕ) → a ≤ j → j < a + n → f j ≡ g j) → greatest f a n ≡ greatest g a n
greatest_same f g a zero same = greatest-none f a ∙ sym (greatest-none g a)
greatest_same f g a (suc n) same =
    omega (arith, greatest_same f g a n (λ j from h. same j from (omega arith)), same (a + n) (omega arith) (omega arith), greatest-more f a n, greatest-more g a n)

-- no value is above the greatest
pub greatest_above : (f : ℕ → ℕ) (a n j : ℕ) → a ≤ j → j < a + n → f j ≤ greatest f a n
greatest_above f a zero j from below = absurd (omega arith)
greatest_above f a (suc n) j from below =
    elim (cases_lt j (a + n)) [
      | inl before ↦ omega (arith, greatest_above f a n j from before, greatest-more f a n)
      | inr here ↦ let last : j ≡ a + n = omega arith in omega (arith, ap f last, greatest-more f a n)
    ]

-- the greatest is no more than what all values are no more than
pub greatest_least : (f : ℕ → ℕ) (a n c : ℕ) → ((j : ℕ) → a ≤ j → j < a + n → f j ≤ c) → greatest f a n ≤ c
greatest_least f a zero c all = omega (arith, greatest-none f a)
greatest_least f a (suc n) c all =
    omega (arith, greatest_least f a n c (λ j from h. all j from (omega arith)), all (a + n) (omega arith) (omega arith), greatest-more f a n)

-- the last place below k that passes a test, counted from 1, or 0 if none does
unfoldable pub last_pass : (ℕ → Bool) → ℕ → ℕ
last_pass p k = fold (λ last j. if p j then j + 1 else last) 0 (range_with_len 0 k)

-- there is no such place below 0
pub last_pass-none : (p : ℕ → Bool) → last_pass p 0 ≡ 0
unfolding last_pass
last_pass-none p = refl

-- one place more
pub last_pass-next : (p : ℕ → Bool) (k : ℕ) → last_pass p (k + 1) ≡ cond (p k) (k + 1) (last_pass p k)
unfolding last_pass
last_pass-next p k = ap (fold (λ last j. if p j then j + 1 else last) 0) (below_more k) ∙ fold_push _ 0 (range_with_len 0 k) k

-- the last place with one place more, stated with `suc k`
pub last_pass-more : (p : ℕ → Bool) (k : ℕ) → last_pass p (suc k) ≡ cond (p k) (suc k) (last_pass p k)
last_pass-more p k = rw add-one at (last_pass-next p k)

-- no place is above all that are looked at
pub last_pass_le : (p : ℕ → Bool) (k : ℕ) → last_pass p k ≤ k
last_pass_le p zero = omega (arith, last_pass-none p)
last_pass_le p (suc k) =
    elim (cases_Bool (p k)) [
      | inl passes ↦ omega (arith, last_pass-more p k ∙ cond-true _ _ _ passes)
      | inr fails ↦ omega (arith, last_pass-more p k ∙ cond-false _ _ _ fails, last_pass_le p k)
    ]

-- two tests that agree below k pass last at the same place
pub last_pass_same : (p q : ℕ → Bool) (k : ℕ) → ((j : ℕ) → j < k → p j ≡ q j) → last_pass p k ≡ last_pass q k
last_pass_same p q zero same = last_pass-none p ∙ sym (last_pass-none q)
last_pass_same p q (suc k) same =
    let before = last_pass_same p q k (λ j h. same j (omega arith)) in
    let here : p k ≡ q k = same k (omega arith) in
    last_pass-more p k ∙ rw (here, before) (sym (last_pass-more q k))

-- a test that passes wherever another does passes last no earlier
pub last_pass_mono : (p q : ℕ → Bool) (k : ℕ) → ((j : ℕ) → p j ≡ true → q j ≡ true) → last_pass p k ≤ last_pass q k
last_pass_mono p q zero more = omega (arith, last_pass-none p)
last_pass_mono p q (suc k) more =
    elim (cases_Bool (p k)) [
      | inl passes ↦ omega (arith, last_pass-more p k ∙ cond-true _ _ _ passes, last_pass-more q k ∙ cond-true _ _ _ (more k passes))
      | inr fails ↦
          let before = last_pass_mono p q k more in
          elim (cases_Bool (q k)) [
            | inl passes ↦ omega (arith, last_pass_le p k, last_pass-more p k ∙ cond-false _ _ _ fails, last_pass-more q k ∙ cond-true _ _ _ passes)
            | inr neither ↦ omega (arith, last_pass-more p k ∙ cond-false _ _ _ fails, last_pass-more q k ∙ cond-false _ _ _ neither)
          ]
    ]

-- the first value that passes a test is found
pub find_first : {X : Type 0} (p : X → Bool) (f : ℕ → X) (from size at : ℕ) → from ≤ at → at < from + size → p (f at) ≡ true → ((j : ℕ) → from ≤ j → j < at → p (f j) ≡ false) → find p (map f (range_with_len from size)) ≡ Some (f at)
find_first p f from zero at low high passes before = absurd (omega arith)
find_first p f from (suc size) at low high passes before =
    elim (cases_lt from at) [
      | inl below ↦ cond-false _ _ _ (before from (omega arith) below) ∙ find_first p f (from + 1) size at (omega arith) (omega arith) passes (λ j above. before j (omega arith))
      | inr here ↦
          let first : from ≡ at = omega arith in
          cond-true _ _ _ (ap (λ j. p (f j)) first ∙ passes) ∙ ap (λ j. Some (f j)) first
    ]
