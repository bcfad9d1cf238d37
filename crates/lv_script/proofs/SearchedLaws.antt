-- What trying one index after another finds.
use Rattle.std.proofs.Common.{◌≡◌, ℕ, suc, zero, ◌+◌, ◌-◌, ◌<◌, ◌≤◌, Bool, true, false, cond, Some, None, [], ◌∷◌, ◌++◌, reverse, find, add-one, refl, ap, ◌∙◌, inl, inr, arith}
use Rattle.std.specs.List.{range_with_len}
use Rattle.std.proofs.lemmas.Bool.{cases_lt, cond-false, cond-true}
use Rattle.std.proofs.lemmas.List.{reverse-append}
use Rattle.lv_geometry.proofs.Ranges.{range_more}
use Rattle.lv_script.specs.Searched.{first_where, last_where}

module _ (test : ℕ → Bool) where
  -- the last of a range is tried first
  last_tried : (a n : ℕ) → find test (reverse (range_with_len a (suc n))) ≡ cond (test (a + n)) (Some (a + n)) (find test (reverse (range_with_len a n)))
  last_tried a n =
      let more : range_with_len a (suc n) ≡ range_with_len a n ++ (a + n) ∷ [] = rw add-one at (range_more a n) in
      ap (find test) (ap reverse more ∙ reverse-append (range_with_len a n) ((a + n) ∷ []))

  -- if the test is false at each index, there is none
  none_first : (a n : ℕ) → ((i : ℕ) → a ≤ i → i < a + n → test i ≡ false) → find test (range_with_len a n) ≡ None
  none_first a zero each = refl
  none_first a (suc n) each =
      cond-false (test a) (Some a) (find test (range_with_len (a + 1) n)) (each a (omega arith) (omega arith))
      ∙ none_first (a + 1) n (λ i low few. each i (omega arith) (omega arith))

  none_last : (a n : ℕ) → ((i : ℕ) → a ≤ i → i < a + n → test i ≡ false) → find test (reverse (range_with_len a n)) ≡ None
  none_last a zero each = refl
  none_last a (suc n) each =
      last_tried a n ∙ cond-false (test (a + n)) (Some (a + n)) (find test (reverse (range_with_len a n))) (each (a + n) (omega arith) (omega arith))
      ∙ none_last a n (λ i low few. each i low (omega arith))

  -- if it is true at one, and false at those before it, that is the first
  one_first : (a n i : ℕ) → a ≤ i → i < a + n → test i ≡ true → ((j : ℕ) → a ≤ j → j < i → test j ≡ false) → find test (range_with_len a n) ≡ Some i
  one_first a zero i low few is before = absurd (omega arith)
  one_first a (suc n) i low few is before =
      elim (cases_lt a i) [
        | inl later ↦
            cond-false (test a) (Some a) (find test (range_with_len (a + 1) n)) (before a (omega arith) later)
            ∙ one_first (a + 1) n i (omega arith) (omega arith) is (λ j above less. before j (omega arith) less)
        | inr here ↦
            let same : a ≡ i = omega arith in
            cond-true (test a) (Some a) (find test (range_with_len (a + 1) n)) (ap test same ∙ is) ∙ ap Some same
      ]

  -- and if it is false at those after it, that is the last
  one_last : (a n i : ℕ) → a ≤ i → i < a + n → test i ≡ true → ((j : ℕ) → i < j → j < a + n → test j ≡ false) → find test (reverse (range_with_len a n)) ≡ Some i
  one_last a zero i low few is behind = absurd (omega arith)
  one_last a (suc n) i low few is behind =
      elim (cases_lt i (a + n)) [
        | inl sooner ↦
            last_tried a n ∙ cond-false (test (a + n)) (Some (a + n)) (find test (reverse (range_with_len a n))) (behind (a + n) sooner (omega arith))
            ∙ one_last a n i low sooner is (λ j above less. behind j above (omega arith))
        | inr here ↦
            let same : a + n ≡ i = omega arith in
            last_tried a n ∙ cond-true (test (a + n)) (Some (a + n)) (find test (reverse (range_with_len a n))) (ap test same ∙ is) ∙ ap Some same
      ]

  module _ (lo hi : ℕ) where
    pub first_is_none : ((i : ℕ) → lo ≤ i → i < hi → test i ≡ false) → first_where test lo hi ≡ None
    first_is_none each = none_first lo (hi - lo) (λ i low few. each i low (omega arith))

    pub last_is_none : ((i : ℕ) → lo ≤ i → i < hi → test i ≡ false) → last_where test lo hi ≡ None
    last_is_none each = none_last lo (hi - lo) (λ i low few. each i low (omega arith))

    pub first_is : (i : ℕ) → lo ≤ i → i < hi → test i ≡ true → ((j : ℕ) → lo ≤ j → j < i → test j ≡ false) → first_where test lo hi ≡ Some i
    first_is i low few is before = one_first lo (hi - lo) i low (omega arith) is before

    pub last_is : (i : ℕ) → lo ≤ i → i < hi → test i ≡ true → ((j : ℕ) → i < j → j < hi → test j ≡ false) → last_where test lo hi ≡ Some i
    last_is i low few is behind = one_last lo (hi - lo) i low (omega arith) is (λ j above less. behind j above (omega arith))
