-- What an edit that nothing refuses finds.
use Rattle.std.proofs.Common.{◌≡◌, ◌≢◌, ℕ, ℤ, ◌^◌, ◌&&◌, ◌<◌, ◌≤◌, Bool, true, false, cond, Some, None, length, nat_eq, nat_lt, refl, sym, ◌∙◌, arith, inl, inr}
use Rattle.std.proofs.lemmas.Bool.{and_parts, cases_Bool, cond-false, cond-true, eqb-false, ltb-false, ltb-true}
use Rattle.std.proofs.lemmas.Option.{none-some}
use Rattle.lv_series.specs.declared.edits.LongEdit.{LongEdit}
use Rattle.lv_series.specs.declared.edits.LongEdit.TheVariants.{Push, Pop, Write, Expire, Swap}
use Rattle.lv_series.specs.declared.refusals.LongRefusal.TheVariants.{Worn, Empty, OutOfRange, Full, BadRange}
use Rattle.lv_series.specs.Series.{Held, SeriesState, is_border, is_kept, range_refused, refused, refused_on, size_of}
use Rattle.lv_series.proofs.KeptLaws.{border_inside, kept_inside}

-- if a refusal would come if a test passed, and none comes, the test fails; and the other way round
none_at_false : {A : Type 0} (b : Bool) (x : A) → cond b (Some x) None ≡ None → b ≡ false
none_at_false true x none = absurd (none-some x (sym none))
none_at_false false x none = refl

none_at_true : {A : Type 0} (b : Bool) (x : A) → cond b None (Some x) ≡ None → b ≡ true
none_at_true true x none = refl
none_at_true false x none = absurd (none-some x (sym none))

-- edits are left, and what is kept allows it
pub free_edit : (s : SeriesState) (e : LongEdit) → refused s e ≡ None → (s.edits ≢ 18446744073709551615) × (refused_on s.held e ≡ None)
free_edit s e free =
    elim (cases_Bool (nat_eq s.edits 18446744073709551615)) [
      | inl worn ↦ absurd (none-some Worn (sym free ∙ cond-true _ _ _ worn))
      | inr left ↦ (eqb-false _ _ left, sym (cond-false _ _ _ left) ∙ free)
    ]

-- an index is left for a push
pub free_push : (h : Held) (x : ℤ) → refused_on h (Push x) ≡ None → size_of h < 2 ^ 62
free_push h x free = ltb-true (size_of h) (2 ^ 62) (none_at_true (nat_lt (size_of h) (2 ^ 62)) Full free)

-- there is an element to pop
pub free_pop : (h : Held) → refused_on h Pop ≡ None → 0 < length h.elements
free_pop h free = omega (arith, eqb-false (length h.elements) 0 (none_at_false (nat_eq (length h.elements) 0) Empty free))

-- an index of a write is kept
pub free_write : (h : Held) (i : ℕ) (x : ℤ) → refused_on h (Write i x) ≡ None → (h.first ≤ i) × (i < size_of h)
free_write h i x free = kept_inside h i (none_at_true (is_kept h i) (OutOfRange h.first (size_of h)) free)

-- both indices of a swap are kept
pub free_swap : (h : Held) (i j : ℕ) → refused_on h (Swap i j) ≡ None → ((h.first ≤ i) × (i < size_of h)) × ((h.first ≤ j) × (j < size_of h))
free_swap h i j free =
    let both = and_parts (is_kept h i) (is_kept h j) (none_at_true (is_kept h i && is_kept h j) (OutOfRange h.first (size_of h)) free) in
    (kept_inside h i both.0, kept_inside h j both.1)

-- an index at which what is kept is cut, in front of it or behind it, is inside, or at its end
pub free_cut : (h : Held) (i : ℕ) → refused_on h (Expire i) ≡ None → (h.first ≤ i) × (i ≤ size_of h)
free_cut h i free = border_inside h i (none_at_true (is_border h i) (OutOfRange h.first (size_of h)) free)

-- a range that nothing refuses is kept
pub free_range : (h : Held) (lo hi : ℕ) → range_refused h lo hi ≡ None → (lo ≤ hi) × (h.first ≤ lo) × (hi ≤ size_of h)
free_range h lo hi free =
    elim (cases_Bool (nat_lt hi lo)) [
      | inl bad ↦ absurd (none-some BadRange (sym free ∙ cond-true _ _ _ bad))
      | inr good ↦
          let rest = sym (cond-false _ _ _ good) ∙ free in
          let both = and_parts (is_border h lo) (is_border h hi) (none_at_true (is_border h lo && is_border h hi) (OutOfRange h.first (size_of h)) rest) in
          (ltb-false hi lo good, (border_inside h lo both.0).0, (border_inside h hi both.1).1)
    ]
