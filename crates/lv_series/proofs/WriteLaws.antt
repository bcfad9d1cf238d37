-- Many writes: what they make of what is kept, and which of them is refused first.
use Rattle.std.proofs.Common.{◌≡◌, ◌≢◌, ℕ, zero, suc, ℤ, pos, ◌+◌, ◌-◌, ◌&&◌, ◌<◌, ◌≤◌, Bool, true, false, if◌then◌else◌, Option, Some, None, List, [], ◌∷◌, ◌++◌, length, take, drop, fold, get_or, nat_eq, nat_le, nat_lt, refl, sym, ap, ◌∙◌, arith, inl, inr, add-one, drop-cons, eq-eqb, length-set}
use Rattle.std.proofs.lemmas.Bool.{cases_Bool, cond-false, cond-true, eqb-false, eqb-true, ne_eqb}
use Rattle.std.proofs.lemmas.List.{drop_all, take_more}
use Rattle.std.proofs.lemmas.List.Sums.{fold_push}
use Rattle.std.proofs.lemmas.Option.{none-some}
use Rattle.lv_series.specs.declared.edits.LongEdit.{LongEdit}
use Rattle.lv_series.specs.declared.edits.LongEdit.TheVariants.{Pop, Write}
use Rattle.lv_series.specs.declared.refusals.LongRefusal.{LongRefusal}
use Rattle.lv_series.specs.declared.refusals.LongRefusal.TheVariants.{OutOfRange, Worn}
use Rattle.lv_series.specs.Batches.{first_refusal, verdict_of_edits, with_edit, writes_at}
use Rattle.lv_series.specs.Series.{Held, SeriesState, changed, is_kept, size_of}

-- as many writes as indices
pub count_writes : (is : List ℕ) (xs : List ℤ) → length is ≡ length xs → length (writes_at is xs) ≡ length is
count_writes [] xs paired = refl
count_writes (i ∷ is) [] paired = absurd (omega (arith, paired))
count_writes (i ∷ is) (x ∷ xs) paired = omega (arith, count_writes is xs (omega (arith, paired)))

-- a write among them
write_at : (is : List ℕ) (xs : List ℤ) (k : ℕ) (d : LongEdit) → length is ≡ length xs → k < length is → get_or (writes_at is xs) k d ≡ Write (get_or is k 0) (get_or xs k (pos 0))
write_at [] xs k d paired small = absurd (omega (arith, small))
write_at (i ∷ is) [] k d paired small = absurd (omega (arith, paired))
write_at (i ∷ is) (x ∷ xs) zero d paired small = refl
write_at (i ∷ is) (x ∷ xs) (suc k) d paired small = write_at is xs k d (omega (arith, paired)) (omega (arith, small))

-- what the first so many writes make, and one more
pub writes_more : (h was next : Held) (is : List ℕ) (xs : List ℤ) (k : ℕ) → length is ≡ length xs → k < length is → was ≡ fold changed h (take k (writes_at is xs)) → next ≡ changed was (Write (get_or is k 0) (get_or xs k (pos 0))) → next ≡ fold changed h (take (k + 1) (writes_at is xs))
writes_more h was next is xs k paired small made change =
    let es = writes_at is xs in
    let e = Write (get_or is k 0) (get_or xs k (pos 0)) in
    let more : take (k + 1) es ≡ take k es ++ e ∷ [] = take_more es k Pop (omega (arith, small, count_writes is xs paired)) ∙ ap (λ y. take k es ++ y ∷ []) (write_at is xs k Pop paired small) in
    change ∙ ap (λ t. changed t e) made ∙ sym (fold_push changed h (take k es) e) ∙ ap (fold changed h) (sym more)

-- whether an index is between two others
abbrev pub is_within : ℕ → ℕ → ℕ → Bool
is_within first size i = nat_le first i && nat_lt i size

-- the refusal of the first write that is refused, if so many edits are left
abbrev pub judged : ℕ → ℕ → ℕ → List ℕ → Option LongRefusal
judged first size left [] = None
judged first size left (i ∷ is) = if nat_eq left 0 then Some Worn else (if is_within first size i then judged first size (left - 1) is else Some (OutOfRange first size))

-- it is so judged
pub verdict_judged : (s : SeriesState) (is : List ℕ) (xs : List ℤ) → length is ≡ length xs → s.edits ≤ 18446744073709551615 → verdict_of_edits s (writes_at is xs) ≡ judged s.held.first (size_of s.held) (18446744073709551615 - s.edits) is
verdict_judged s [] xs paired edits = refl
verdict_judged s (i ∷ is) [] paired edits = absurd (omega (arith, paired))
verdict_judged s (i ∷ is) (x ∷ xs) paired edits =
    let later = verdict_of_edits (with_edit s (Write i x)) (writes_at is xs) in
    let size = size_of s.held in
    elim (cases_Bool (nat_eq s.edits 18446744073709551615)) [
      | inl worn ↦
          let last : s.edits ≡ 18446744073709551615 = eqb-true s.edits 18446744073709551615 worn in
          ap (λ r. first_refusal r later) (cond-true _ _ _ worn) ∙ sym (cond-true _ _ _ (eq-eqb (18446744073709551615 - s.edits) 0 (omega (arith, last))))
      | inr more ↦
          let small = eqb-false s.edits 18446744073709551615 more in
          let left : 18446744073709551615 - s.edits ≢ 0 = λ none. omega (arith, none, small, edits) in
          let right = cond-false _ _ _ (ne_eqb (18446744073709551615 - s.edits) 0 left) in
          elim (cases_Bool (is_kept s.held i)) [
            | inl kept ↦
                ap (λ r. first_refusal r later) (cond-false _ _ _ more ∙ cond-true _ _ _ kept)
                ∙ verdict_judged (with_edit s (Write i x)) is xs (omega (arith, paired)) (omega (arith, small, edits))
                ∙ ap (λ n. judged s.held.first (s.held.first + n) (18446744073709551615 - (s.edits + 1)) is) (length-set s.held.elements (i - s.held.first) x)
                ∙ ap (λ n. judged s.held.first size n is) (omega arith)
                ∙ sym (right ∙ cond-true _ _ _ kept)
            | inr out ↦ ap (λ r. first_refusal r later) (cond-false _ _ _ more ∙ cond-false _ _ _ out) ∙ sym (right ∙ cond-false _ _ _ out)
          ]
    ]

module _ (first size : ℕ) (is : List ℕ) (left k : ℕ) (small : k < length is) where
  there : drop k is ≡ get_or is k 0 ∷ drop (k + 1) is
  there = rw (add-one, drop-cons is k 0)

  -- edits run out at a write
  pub judged_worn : k ≡ left → judged first size (left - k) (drop k is) ≡ Some Worn
  judged_worn end = ap (judged first size (left - k)) there ∙ cond-true _ _ _ (eq-eqb (left - k) 0 (omega (arith, end)))

  module _ (more : k < left) where
    some_left : left - k ≢ 0
    some_left none = omega (arith, none, more)

    -- its index is not kept
    pub judged_out : is_within first size (get_or is k 0) ≡ false → judged first size (left - k) (drop k is) ≡ Some (OutOfRange first size)
    judged_out out = ap (judged first size (left - k)) there ∙ cond-false _ _ _ (ne_eqb (left - k) 0 some_left) ∙ cond-false _ _ _ out

    -- or it is not refused, and those behind it are judged
    pub judged_more : is_within first size (get_or is k 0) ≡ true → judged first size (left - k) (drop k is) ≡ judged first size (left - (k + 1)) (drop (k + 1) is)
    judged_more kept = ap (judged first size (left - k)) there ∙ cond-false _ _ _ (ne_eqb (left - k) 0 some_left) ∙ cond-true _ _ _ kept ∙ ap (λ n. judged first size n (drop (k + 1) is)) (omega arith)

-- none is left
pub judged_none : (first size left k : ℕ) (is : List ℕ) → length is ≤ k → judged first size left (drop k is) ≡ None
judged_none first size left k is end = ap (judged first size left) (drop_all k is end)

-- if none is refused, edits are left for all
pub judged_few : (first size left : ℕ) (is : List ℕ) → judged first size left is ≡ None → length is ≤ left
judged_few first size left [] free = omega arith
judged_few first size left (i ∷ is) free =
    elim (cases_Bool (nat_eq left 0)) [
      | inl worn ↦ absurd (none-some Worn (sym free ∙ cond-true _ _ _ worn))
      | inr more ↦
          let rest = sym (cond-false _ _ _ more) ∙ free in
          elim (cases_Bool (is_within first size i)) [
            | inl kept ↦ omega (arith, eqb-false left 0 more, judged_few first size (left - 1) is (sym (cond-true _ _ _ kept) ∙ rest))
            | inr out ↦ absurd (none-some (OutOfRange first size) (sym rest ∙ cond-false _ _ _ out))
          ]
    ]

-- an index more
each_kept : (first size i : ℕ) (is : List ℕ) → is_within first size i ≡ true → ((k : ℕ) → k < length is → is_within first size (get_or is k 0) ≡ true) → (k : ℕ) → k < length (i ∷ is) → is_within first size (get_or (i ∷ is) k 0) ≡ true
each_kept first size i is kept others zero small = kept
each_kept first size i is kept others (suc k) small = others k (omega (arith, small))

-- and each index is kept
pub judged_kept : (first size left : ℕ) (is : List ℕ) → judged first size left is ≡ None → (k : ℕ) → k < length is → is_within first size (get_or is k 0) ≡ true
judged_kept first size left [] free k small = absurd (omega (arith, small))
judged_kept first size left (i ∷ is) free k small =
    elim (cases_Bool (nat_eq left 0)) [
      | inl worn ↦ absurd (none-some Worn (sym free ∙ cond-true _ _ _ worn))
      | inr more ↦
          let rest = sym (cond-false _ _ _ more) ∙ free in
          elim (cases_Bool (is_within first size i)) [
            | inl kept ↦ each_kept first size i is kept (judged_kept first size (left - 1) is (sym (cond-true _ _ _ kept) ∙ rest)) k small
            | inr out ↦ absurd (none-some (OutOfRange first size) (sym rest ∙ cond-false _ _ _ out))
          ]
    ]
