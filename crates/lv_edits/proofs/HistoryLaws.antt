-- The list after one more edit, and properties of every legal journal.
use Rattle.std.proofs.Common.{◌≡◌, ◌≢◌, ℕ, ℤ, pos, ◌-◌, ◌<◌, ◌≤◌, ◌⊎◌, Option, Some, None, IsSome, option_and_then, unwrap_or, List, [], ◌∷◌, ◌++◌, length, All, take, Bool, true, false, cond, get_or, nat_eq, slice_set, refl, sym, ap, ◌∙◌, inl, inr, arith}
use Rattle.std.specs.List.{swap}
use Rattle.std.proofs.lemmas.Bool.{and_from, and_parts, cases_Bool, cases_lt, cond-false, cond-true, eqb-false, false≢true, le-leb, lt-ltb, ltb-false, ltb-true}
use Rattle.std.proofs.lemmas.List.{append-nil, append_assoc, length_push, length-set, length-take, take-append-le, take_all}
use Rattle.std.proofs.lemmas.List.Edits.{length-swap, swap_is}
use Rattle.std.proofs.lemmas.List.Elements.{All-get_or, All-nil, All-push, All-same, All-set, All-take}
use Rattle.std.proofs.lemmas.List.Sums.{fold_push}
use Rattle.std.proofs.lemmas.Option.{cond_some, none-some, option_and_then_some, same_Some}
use Rattle.lv_geometry.specs.Bounds.{AreAllowed, Bounds}
use Rattle.lv_geometry.specs.Cells.{capacity_of}
use Rattle.lv_geometry.specs.Elements.{IsElement}
use Rattle.lv_geometry.specs.declared.refusals.Refusal.TheVariants.{Empty, Full, OutOfRange, TooLarge, Worn}
use Rattle.lv_edits.specs.declared.edit.Edit.{Edit}
use Rattle.lv_edits.specs.declared.edit.Edit.TheVariants.{Push, Pop, Write, Reserve, Swap, Truncate}
use Rattle.lv_edits.specs.History.{applied, History, IsLegal, list_of, replayed, with_edit}
use Rattle.lv_edits.specs.Kept.{CarriesElement, IsLegalInLimits}
use Rattle.lv_geometry.proofs.Capacities.{capacity_of_most}
use Rattle.lv_edits.specs.Verdict.{refused_on, verdict_of}

-- one more edit is applied to the list after the edits before it
pub replayed-snoc : (es : List Edit) (e : Edit) → replayed (es ++ e ∷ []) ≡ option_and_then (λ xs. applied xs e) (replayed es)
unfolding replayed
replayed-snoc es e = fold_push _ _ es e

-- the list after some edits is what replaying them gives
pub list_of_replayed : (es : List Edit) (xs : List ℤ) → replayed es ≡ Some xs → list_of es ≡ xs
unfolding list_of
list_of_replayed es xs made = ap (λ r. unwrap_or r []) made

-- an option that has a value is `Some` of it
there_is_one : (o : Option (List ℤ)) → IsSome o → (xs : List ℤ) × (o ≡ Some xs)
there_is_one (Some xs) some = (xs, refl)
there_is_one None some = absurd (false≢true some)

-- legal edits make their list
pub list_of_legal : (es : List Edit) → IsLegal es → replayed es ≡ Some (list_of es)
list_of_legal es legal =
    let one = there_is_one (replayed es) legal in
    one.1 ∙ ap Some (sym (list_of_replayed es one.0 one.1))

-- no edits make the empty list
pub replayed-nil : replayed [] ≡ Some []
unfolding replayed
replayed-nil = refl

-- no edits are a legal journal
pub legal_empty : replayed [] ≡ Some (list_of [])
legal_empty = replayed-nil ∙ ap Some (sym (list_of_replayed [] [] replayed-nil))

-- the list after one more edit that is possible
pub list_of-snoc : (es : List Edit) (e : Edit) (ys : List ℤ) → replayed es ≡ Some (list_of es) → applied (list_of es) e ≡ Some ys → (replayed (es ++ e ∷ []) ≡ Some ys) × (list_of (es ++ e ∷ []) ≡ ys)
list_of-snoc es e ys legal possible =
    let next = replayed-snoc es e ∙ ap (option_and_then (λ xs. applied xs e)) legal ∙ possible in
    (next, list_of_replayed (es ++ e ∷ []) ys next)

-- one more edit that is possible leaves a legal journal legal
pub legal-snoc : (es : List Edit) (e : Edit) (ys : List ℤ) → replayed es ≡ Some (list_of es) → applied (list_of es) e ≡ Some ys → replayed (es ++ e ∷ []) ≡ Some (list_of (es ++ e ∷ []))
legal-snoc es e ys legal possible =
    let next = list_of-snoc es e ys legal possible in
    next.0 ∙ ap Some (sym next.1)

-- a legal journal was legal before its last edit, which was possible then
pub legal_before : (es : List Edit) (e : Edit) → replayed (es ++ e ∷ []) ≡ Some (list_of (es ++ e ∷ [])) → (replayed es ≡ Some (list_of es)) × (applied (list_of es) e ≡ Some (list_of (es ++ e ∷ [])))
legal_before es e legal =
    option_and_then_some (λ xs. applied xs e) (replayed es) _ (sym (replayed-snoc es e) ∙ legal) (λ xs made possible.
    let same = list_of_replayed es xs made in
    (made ∙ ap Some (sym same), ap (λ l. applied l e) same ∙ possible))

-- a property of a prefix that is kept by one more element holds of the whole list
from_front : {X : Type 0} (P : List X → Type 0) → ((xs : List X) (x : X) → P xs → P (xs ++ x ∷ [])) → (front rest : List X) → P front → P (front ++ rest)
from_front P more front [] h = rw append-nil h
from_front P more front (x ∷ rest) h = rw append_assoc at (from_front P more (front ++ x ∷ []) rest (more front x h))

-- a property of the empty journal that is kept by one more possible edit holds of every legal journal
pub by_last_edit : (P : List Edit → Type 0) → P [] → ((es : List Edit) (e : Edit) (ys : List ℤ) → replayed es ≡ Some (list_of es) → applied (list_of es) e ≡ Some ys → P es → P (es ++ e ∷ [])) → (es : List Edit) → replayed es ≡ Some (list_of es) → P es
by_last_edit P none more es legal =
    from_front (λ es. replayed es ≡ Some (list_of es) → P es) (λ es e before legal.
    let was = legal_before es e legal in
    more es e _ was.0 was.1 (before was.0)) [] es (λ _. none) legal

-- a prefix of a journal with one more edit is a prefix of the journal, or all of it
beginning_or_all : (es : List Edit) (e : Edit) (j : ℕ) → (take j (es ++ e ∷ []) ≡ take j es) ⊎ (take j (es ++ e ∷ []) ≡ es ++ e ∷ [])
beginning_or_all es e j =
    elim (cases_lt (length es) j) [
      | inl above ↦ inr (take_all j (es ++ e ∷ []) (omega (arith, length_push es e)))
      | inr within ↦ inl (take-append-le j es (e ∷ []) within)
    ]

-- each beginning of a legal journal is legal
pub legal_beginnings : (es : List Edit) → replayed es ≡ Some (list_of es) → (j : ℕ) → replayed (take j es) ≡ Some (list_of (take j es))
legal_beginnings es legal =
    by_last_edit (λ es. (j : ℕ) → replayed (take j es) ≡ Some (list_of (take j es)))
    (λ j. rw (take_all {A = Edit} j [] (omega arith)) legal_empty)
    (λ es e ys legal possible before j. elim (beginning_or_all es e j) [
      | inl same ↦ rw same (before j)
      | inr same ↦ rw same (legal-snoc es e ys legal possible)
    ])
    es legal

-- an edit that nothing refuses comes before the limit of edits, and nothing refuses it on the list
pub not_refused : (limits : Bounds) (es : List Edit) (e : Edit) → verdict_of limits es e ≡ None → (length es ≢ limits.edits) × (refused_on limits (list_of es) e ≡ None)
not_refused limits es e free =
    elim (cases_Bool (nat_eq (length es) limits.edits)) [
      | inl worn ↦ absurd (none-some Worn (sym free ∙ cond-true _ _ _ worn))
      | inr left ↦ (eqb-false _ _ left, sym (cond-false _ _ _ left) ∙ free)
    ]

-- if a passed test gives an error, and there is none, the test fails
none_at_false : {A : Type 0} (b : Bool) (x : A) → cond b (Some x) None ≡ None → b ≡ false
none_at_false true x none = absurd (none-some x (sym none))
none_at_false false x none = refl

-- if a failed test gives an error, and there is none, the test passes
none_at_true : {A : Type 0} (b : Bool) (x : A) → cond b None (Some x) ≡ None → b ≡ true
none_at_true true x none = refl
none_at_true false x none = absurd (none-some x (sym none))

-- a push that nothing refuses finds the list below the limit's capacity
pub unrefused_push : (limits : Bounds) (xs : List ℤ) (x : ℤ) → refused_on limits xs (Push x) ≡ None → length xs ≢ capacity_of limits.buckets
unrefused_push limits xs x free = eqb-false (length xs) (capacity_of limits.buckets) (none_at_false _ Full free)

-- a pop that nothing refuses finds an element
pub unrefused_pop : (limits : Bounds) (xs : List ℤ) → refused_on limits xs Pop ≡ None → 0 < length xs
unrefused_pop limits xs free = omega (arith, eqb-false (length xs) 0 (none_at_false _ Empty free))

-- a write that nothing refuses is at an index of the list
pub unrefused_write : (limits : Bounds) (xs : List ℤ) (i : ℕ) (x : ℤ) → refused_on limits xs (Write i x) ≡ None → i < length xs
unrefused_write limits xs i x free = ltb-true i (length xs) (none_at_true _ (OutOfRange (length xs)) free)

-- a reserve that nothing refuses is within the limit's capacity
pub unrefused_reserve : (limits : Bounds) (xs : List ℤ) (n : ℕ) → refused_on limits xs (Reserve n) ≡ None → n ≤ capacity_of limits.buckets
unrefused_reserve limits xs n free = ltb-false (capacity_of limits.buckets) n (none_at_false _ (TooLarge (capacity_of limits.buckets)) free)

-- a swap that nothing refuses is of two indices of the list
pub unrefused_swap : (limits : Bounds) (xs : List ℤ) (i j : ℕ) → refused_on limits xs (Swap i j) ≡ None → (i < length xs) × (j < length xs)
unrefused_swap limits xs i j free =
    let both = and_parts _ _ (none_at_true _ (OutOfRange (length xs)) free) in
    (ltb-true i (length xs) both.0, ltb-true j (length xs) both.1)

-- a truncate that nothing refuses keeps no more than there are
pub unrefused_truncate : (limits : Bounds) (xs : List ℤ) (n : ℕ) → refused_on limits xs (Truncate n) ≡ None → n ≤ length xs
unrefused_truncate limits xs n free = ltb-false (length xs) n (none_at_false _ (OutOfRange (length xs)) free)

-- a pop of a list with an element is possible
pub applied_pop : (xs : List ℤ) → 0 < length xs → applied xs Pop ≡ Some (take (length xs - 1) xs)
applied_pop xs some = cond-true _ _ _ (lt-ltb 0 (length xs) some)

-- a write at an index of the list is possible
pub applied_write : (xs : List ℤ) (i : ℕ) (x : ℤ) → i < length xs → applied xs (Write i x) ≡ Some (slice_set xs i x)
applied_write xs i x within = cond-true _ _ _ (lt-ltb i (length xs) within)

-- a swap of two indices of the list is possible
pub applied_swap : (xs : List ℤ) (i j : ℕ) → i < length xs → j < length xs → applied xs (Swap i j) ≡ Some (swap xs i j)
applied_swap xs i j first second =
    cond-true _ _ _ (and_from _ _ (lt-ltb i (length xs) first) (lt-ltb j (length xs) second))

-- a swap that is possible overwrites each of the two elements with the other
pub swapped : (xs ys : List ℤ) (i j : ℕ) → applied xs (Swap i j) ≡ Some ys → (i < length xs) × (j < length xs) × (ys ≡ slice_set (slice_set xs i (get_or xs j (pos 0))) j (get_or xs i (pos 0)))
swapped xs ys i j made =
    let parts = cond_some _ _ _ made in
    let both = and_parts _ _ parts.0 in
    let first = ltb-true i (length xs) both.0 in
    let second = ltb-true j (length xs) both.1 in
    (first, second, sym parts.1 ∙ sym (swap_is xs i j (pos 0) first second))

-- a truncate to no more than there are is possible
pub applied_truncate : (xs : List ℤ) (n : ℕ) → n ≤ length xs → applied xs (Truncate n) ≡ Some (take n xs)
applied_truncate xs n within = cond-true _ _ _ (le-leb n (length xs) within)

-- an edit that nothing refuses on a list is possible on it
possible_on : (limits : Bounds) (xs : List ℤ) (e : Edit) → refused_on limits xs e ≡ None → (ys : List ℤ) × (applied xs e ≡ Some ys)
possible_on limits xs (Push x) free = (xs ++ x ∷ [], refl)
possible_on limits xs Pop free = (take (length xs - 1) xs, applied_pop xs (unrefused_pop limits xs free))
possible_on limits xs (Write i x) free = (slice_set xs i x, applied_write xs i x (unrefused_write limits xs i x free))
possible_on limits xs (Reserve n) free = (xs, refl)
possible_on limits xs (Swap i j) free =
    let both = unrefused_swap limits xs i j free in
    (swap xs i j, applied_swap xs i j both.0 both.1)
possible_on limits xs (Truncate n) free = (take n xs, applied_truncate xs n (unrefused_truncate limits xs n free))

-- an accepted edit is possible
pub accepted_is_possible : (limits : Bounds) (es : List Edit) (e : Edit) → verdict_of limits es e ≡ None → (ys : List ℤ) × (applied (list_of es) e ≡ Some ys)
accepted_is_possible limits es e free = possible_on limits (list_of es) e (not_refused limits es e free).1

-- numbers of 64 bits stay such under an edit that carries one
elements_after : (xs ys : List ℤ) (e : Edit) → applied xs e ≡ Some ys → CarriesElement e → All IsElement xs → All IsElement ys
elements_after xs ys (Push x) made carried all =
    All-same IsElement ys (xs ++ x ∷ []) (sym (same_Some _ _ made)) (All-push IsElement xs x all carried)
elements_after xs ys Pop made carried all =
    All-same IsElement ys _ (sym (cond_some _ _ _ made).1) (All-take IsElement (length xs - 1) xs all)
elements_after xs ys (Write i x) made carried all =
    All-same IsElement ys _ (sym (cond_some _ _ _ made).1) (All-set IsElement xs i x carried all)
elements_after xs ys (Reserve n) made carried all = All-same IsElement ys xs (sym (same_Some _ _ made)) all
elements_after xs ys (Swap i j) made carried all =
    let done = swapped xs ys i j made in
    let first = All-get_or IsElement xs j (pos 0) done.1 all in
    let second = All-get_or IsElement xs i (pos 0) done.0 all in
    All-same IsElement ys _ done.2 (All-set IsElement _ j (get_or xs i (pos 0)) second (All-set IsElement xs i (get_or xs j (pos 0)) first all))
elements_after xs ys (Truncate n) made carried all =
    All-same IsElement ys _ (sym (cond_some _ _ _ made).1) (All-take IsElement n xs all)

-- an edit that nothing refuses leaves the list within the limits
pub length_after : (limits : Bounds) (xs ys : List ℤ) (e : Edit) → refused_on limits xs e ≡ None → applied xs e ≡ Some ys → length xs ≤ capacity_of limits.buckets → length ys ≤ capacity_of limits.buckets
length_after limits xs ys (Push x) free made fits =
    omega (arith, ap length (same_Some _ _ made), length_push xs x, unrefused_push limits xs x free)
length_after limits xs ys Pop free made fits =
    omega (arith, ap length (cond_some _ _ _ made).1, length-take (length xs - 1) xs)
length_after limits xs ys (Write i x) free made fits =
    omega (arith, ap length (cond_some _ _ _ made).1, length-set xs i x)
length_after limits xs ys (Reserve n) free made fits = omega (arith, ap length (same_Some _ _ made))
length_after limits xs ys (Swap i j) free made fits =
    omega (arith, ap length (cond_some _ _ _ made).1, length-swap xs i j)
length_after limits xs ys (Truncate n) free made fits =
    omega (arith, ap length (cond_some _ _ _ made).1, length-take n xs)

-- a history is within its limits if its edits make a list that is
pub IsLegalInLimits-by : (limits : Bounds) (es : List Edit) (xs : List ℤ) → AreAllowed limits.buckets limits.edits → replayed es ≡ Some xs → length es ≤ limits.edits → length xs ≤ capacity_of limits.buckets → All IsElement xs → IsLegalInLimits record { limits = limits; journal = es }
IsLegalInLimits-by limits es xs allowed made edits size elements =
    let same : list_of es ≡ xs = list_of_replayed es xs made in
    let long : length (list_of es) ≡ length xs = ap length same in
    record {
      allowed = allowed;
      legal = made ∙ ap Some (sym same);
      edits = edits;
      size = omega arith;
      few = omega (arith, capacity_of_most limits.buckets allowed.few_buckets);
      elements = All-same IsElement _ xs same elements;
    }

-- the empty history is within its limits
pub IsLegalInLimits-empty : (limits : Bounds) → AreAllowed limits.buckets limits.edits → IsLegalInLimits record { limits = limits; journal = [] }
IsLegalInLimits-empty limits allowed =
    IsLegalInLimits-by limits [] [] allowed replayed-nil (omega arith) (omega arith) (All-nil IsElement)

-- a history within its limits stays so with one more edit that is accepted and carries an element
pub IsLegalInLimits-snoc : (h : History) (e : Edit) → IsLegalInLimits h → verdict_of h.limits h.journal e ≡ None → CarriesElement e → IsLegalInLimits (with_edit h e)
IsLegalInLimits-snoc h e within free carried =
    let limits = h.limits in
    let left = not_refused limits h.journal e free in
    let next = accepted_is_possible limits h.journal e free in
    let made = list_of-snoc h.journal e next.0 within.legal next.1 in
    IsLegalInLimits-by limits (h.journal ++ e ∷ []) next.0 within.allowed made.0
    (omega (arith, left.0, length_push h.journal e, within.edits))
    (length_after limits (list_of h.journal) next.0 e left.1 next.1 within.size)
    (elements_after (list_of h.journal) next.0 e next.1 carried within.elements)
