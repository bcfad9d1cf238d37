-- Many writes at a series: which of them is refused first.
use Rattle.std.proofs.Common.{◌≡◌, ◌≢◌, ℕ, ℤ, ◌+◌, ◌-◌, ◌<◌, ◌≤◌, Bool, true, false, List, [], ◌∷◌, length, drop, get_or, is_some, nat_eq, cond, if◌then◌else◌, refl, sym, ap, ◌∙◌, inl, inr, arith, add-one, drop-cons, eq-eqb, length-set}
use Rattle.std.specs.Prelude.{is_err, not}
use Rattle.std.proofs.lemmas.Bool.{cases_Bool, cond-false, cond-true, eqb-false, eqb-true, ne_eqb}
use Rattle.lv_series.specs.declared.edits.LongEdit.TheVariants.{Write}
use Rattle.lv_series.specs.Batches.{with_edit, writes_at}
use Rattle.lv_series.specs.Series.{Held, element_at, is_kept, size_of}
use Rattle.lv_series.proofs.WriteLaws.{is_within, judged, judged_more, judged_none, judged_out, judged_worn, verdict_judged}
use Rattle.livevec_c.specs.SeriesHeld.{Long}
use Rattle.livevec_c.specs.SeriesWritten.{accepted_before, place_refused}

-- how many writes are accepted before one is refused, if so many edits are left
abbrev counted : ℕ → ℕ → ℕ → List ℕ → ℕ
counted first size left [] = 0
counted first size left (i ∷ is) = if nat_eq left 0 then 0 else (if is_within first size i then counted first size (left - 1) is + 1 else 0)

-- that many are accepted of writes of any values
accepted_is : (s : Long) (is : List ℕ) (xs : List ℤ) → length is ≡ length xs → s.edits ≤ 18446744073709551615 → accepted_before s (writes_at is xs) ≡ counted s.held.first (size_of s.held) (18446744073709551615 - s.edits) is
accepted_is s [] xs paired edits = refl
accepted_is s (i ∷ is) [] paired edits = absurd (omega (arith, paired))
accepted_is s (i ∷ is) (x ∷ xs) paired edits =
    let next = with_edit s (Write i x) in
    let later = accepted_before next (writes_at is xs) + 1 in
    let size = size_of s.held in
    elim (cases_Bool (nat_eq s.edits 18446744073709551615)) [
      | inl worn ↦
          let last : s.edits ≡ 18446744073709551615 = eqb-true s.edits 18446744073709551615 worn in
          ap (λ r. cond (is_some r) 0 later) (cond-true _ _ _ worn) ∙ sym (cond-true _ _ _ (eq-eqb (18446744073709551615 - s.edits) 0 (omega (arith, last))))
      | inr more ↦
          let small = eqb-false s.edits 18446744073709551615 more in
          let left : 18446744073709551615 - s.edits ≢ 0 = λ none. omega (arith, none, small, edits) in
          let right = cond-false _ _ _ (ne_eqb (18446744073709551615 - s.edits) 0 left) in
          elim (cases_Bool (is_kept s.held i)) [
            | inl kept ↦
                ap (λ r. cond (is_some r) 0 later) (cond-false _ _ _ more ∙ cond-true _ _ _ kept)
                ∙ ap (λ n. n + 1) (accepted_is next is xs (omega (arith, paired)) (omega (arith, small, edits)))
                ∙ ap (λ n. counted s.held.first (s.held.first + n) (18446744073709551615 - (s.edits + 1)) is + 1) (length-set s.held.elements (i - s.held.first) x)
                ∙ ap (λ n. counted s.held.first size n is + 1) (omega arith)
                ∙ sym (right ∙ cond-true _ _ _ kept)
            | inr out ↦ ap (λ r. cond (is_some r) 0 later) (cond-false _ _ _ more ∙ cond-false _ _ _ out) ∙ sym (right ∙ cond-false _ _ _ out)
          ]
    ]

-- the first that is refused, by both
place_is : (s : Long) (is : List ℕ) (xs : List ℤ) → length is ≡ length xs → s.edits ≤ 18446744073709551615 → let left = 18446744073709551615 - s.edits in let size = size_of s.held in
    place_refused s (writes_at is xs) ≡ cond (is_some (judged s.held.first size left is)) (counted s.held.first size left is) 0
place_is s is xs paired edits =
    let left = 18446744073709551615 - s.edits in
    let size = size_of s.held in
    ap (λ r. cond (is_some r) (accepted_before s (writes_at is xs)) 0) (verdict_judged s is xs paired edits)
    ∙ ap (λ n. cond (is_some (judged s.held.first size left is)) n 0) (accepted_is s is xs paired edits)

-- at a place in a list of indices, before which no write is refused
pub record AreFreeBefore (first size left place : ℕ) (is : List ℕ) : Type 0 where
  pub within : place ≤ left
  pub judged_is : judged first size left is ≡ judged first size (left - place) (drop place is)
  pub counted_is : counted first size left is ≡ place + counted first size (left - place) (drop place is)

pub free_before_first : (first size left : ℕ) (is : List ℕ) → AreFreeBefore first size left 0 is
free_before_first first size left is =
    let all : left ≡ left - 0 = omega arith in
    record {
      within = omega arith;
      judged_is = ap (λ n. judged first size n is) all;
      counted_is = ap (λ n. counted first size n is) all ∙ omega arith;
    }

module _ (first size left place : ℕ) (is : List ℕ) (small : place < length is) (free : AreFreeBefore first size left place is) where
  there : drop place is ≡ get_or is place 0 ∷ drop (place + 1) is
  there = rw (add-one, drop-cons is place 0)

  -- there are edits left for the next, and its index is kept
  pub free_before_next : place ≢ left → is_within first size (get_or is place 0) ≡ true → AreFreeBefore first size left (place + 1) is
  free_before_next some kept =
      let more : place < left = omega (arith, free.within, some) in
      let left_over : left - place ≢ 0 = λ none. omega (arith, none, more) in
      let one : counted first size (left - place) (drop place is) ≡ counted first size (left - (place + 1)) (drop (place + 1) is) + 1 =
      ap (counted first size (left - place)) there
      ∙ cond-false _ _ _ (ne_eqb (left - place) 0 left_over)
      ∙ cond-true _ _ _ kept
      ∙ ap (λ n. counted first size n (drop (place + 1) is) + 1) (omega arith) in
      record {
        within = omega (arith, more);
        judged_is = free.judged_is ∙ judged_more first size is left place small more kept;
        counted_is = omega (arith, free.counted_is, one);
      }

  -- the first write that is refused is at that place
  place_so : is_some (judged first size left is) ≡ true → counted first size (left - place) (drop place is) ≡ 0 → cond (is_some (judged first size left is)) (counted first size left is) 0 ≡ place
  place_so some none = cond-true _ _ _ some ∙ omega (arith, free.counted_is, none)

  place_worn : place ≡ left → cond (is_some (judged first size left is)) (counted first size left is) 0 ≡ place
  place_worn worn =
      place_so (ap is_some (free.judged_is ∙ judged_worn first size is left place small worn))
      (ap (counted first size (left - place)) there ∙ cond-true _ _ _ (eq-eqb (left - place) 0 (omega (arith, worn))))

  place_out : place ≢ left → is_within first size (get_or is place 0) ≡ false → cond (is_some (judged first size left is)) (counted first size left is) 0 ≡ place
  place_out some out =
      let more : place < left = omega (arith, free.within, some) in
      let left_over : left - place ≢ 0 = λ none. omega (arith, none, more) in
      place_so (ap is_some (free.judged_is ∙ judged_out first size is left place small more out))
      (ap (counted first size (left - place)) there ∙ cond-false _ _ _ (ne_eqb (left - place) 0 left_over) ∙ cond-false _ _ _ out)

-- an index that is kept has an element
pub kept_or_not : (h : Held) (i : ℕ) (b : Bool) → b ≡ is_err (element_at h i) → is_kept h i ≡ not b
kept_or_not h i b is =
    elim (cases_Bool (is_kept h i)) [
      | inl kept ↦ kept ∙ ap not (sym (is ∙ ap is_err (cond-true _ _ _ kept)))
      | inr out ↦ out ∙ ap not (sym (is ∙ ap is_err (cond-false _ _ _ out)))
    ]

-- the place that is returned is right, given how many edits are left
module _ (s : Long) (is : List ℕ) (xs : List ℤ) (paired : length is ≡ length xs) (edits : s.edits ≤ 18446744073709551615) (left place : ℕ) (left_is : left ≡ 18446744073709551615 - s.edits) (free : AreFreeBefore s.held.first (size_of s.held) left place is) where
  here : cond (is_some (judged s.held.first (size_of s.held) left is)) (counted s.held.first (size_of s.held) left is) 0 ≡ place_refused s (writes_at is xs)
  here = rw left_is (sym (place_is s is xs paired edits))

  pub told_worn : place < length is → place ≡ left → place ≡ place_refused s (writes_at is xs)
  told_worn small worn = sym (place_worn s.held.first (size_of s.held) left place is small free worn) ∙ here

  pub told_out : place < length is → place ≢ left → is_kept s.held (get_or is place 0) ≡ false → place ≡ place_refused s (writes_at is xs)
  told_out small some out = sym (place_out s.held.first (size_of s.held) left place is small free some out) ∙ here

  pub told_none : length is ≤ place → 0 ≡ place_refused s (writes_at is xs)
  told_none past =
      sym (ap (λ r. cond (is_some r) (counted s.held.first (size_of s.held) left is) 0) (free.judged_is ∙ judged_none s.held.first (size_of s.held) (left - place) place is past)) ∙ here
