-- Ranges of a list that reach past its end, and what an edit elsewhere leaves of a span.
use Rattle.std.proofs.Common.{◌≡◌, ℕ, ℤ, pos, ◌-◌, ◌⊎◌, max, min, eqb, ◌<◌, ◌≤◌, false, true, refl, IfSome, Bool, List, [], ◌∷◌, ◌++◌, length, take, drop, slice_range, slice_set, Some, None, ltb, not, ◌&&◌, ◌||◌, sym, ap, ap₂, ◌∙◌, inl, inr, arith, length-drop, length-append, subst, get_or}
use Rattle.std.proofs.lemmas.Bool.{cases_Bool, cases_lt, cond-false, eqb-true, false≢true, leb-true, lt-leb, lt-ltb, ltb-false, le-ltb, le-leb, or_parts}
use Rattle.std.proofs.Math.Bool.{or-false}
use Rattle.std.proofs.lemmas.Option.{cond_some, none-some}
use Rattle.std.proofs.Math.Seq.{take-nil}
use Rattle.std.proofs.lemmas.List.{drop-append-le, drop_all, length-take-le, set-get_or, take_all}
use Rattle.lv_bodies.specs.Body.{CanFold}
use Rattle.lv_edits.specs.declared.edit.Edit.{Edit}
use Rattle.lv_edits.specs.declared.edit.Edit.TheVariants.{Push, Pop, Write, Reserve, Swap, Truncate}
use Rattle.lv_edits.specs.History.{History, applied, list_of, replayed}
use Rattle.lv_edits.specs.Kept.{IsLegalInLimits}
use Rattle.lv_edits.specs.Ranges.{range_refusal}
use Rattle.lv_edits.specs.Verdict.{verdict_of}
use Rattle.lv_edits.proofs.HistoryLaws.{accepted_is_possible, list_of-snoc, swapped}
use Rattle.lv_edits.proofs.Slices.{part_of_push, part_of_set, part_of_take}
use Rattle.lv_summary.proofs.FoldableLaws.{can_fold, part_can_fold}
use Rattle.lv_live.specs.declared.following.Touched.{Touched}
use Rattle.lv_live.specs.declared.following.Touched.TheVariants.{Nothing, One, Two}
use Rattle.lv_live.specs.Follows.{indices_in}
use Rattle.lv_standing.specs.declared.changes.Changed.{Changed}
use Rattle.lv_standing.specs.declared.spans.Span.{Span}
use Rattle.lv_standing.specs.declared.spans.Span.TheVariants.{Between, Last}
use Rattle.lv_standing.specs.Inner.{IsChangedBy, IsPushed, has_changed, has_index, has_written, joined_to, pushed_by, size_after}
use Rattle.lv_standing.specs.Queries.{span_of}
use Rattle.lv_standing.proofs.RoomLaws.{size_by_edit}

-- a range that starts past the end is empty
empty_past : {A : Type 0} (xs : List A) (lo hi : ℕ) → length xs ≤ lo → slice_range xs lo hi ≡ []
empty_past xs lo hi h = ap (take (hi - lo)) (drop_all lo xs h) ∙ take-nil (hi - lo)

-- a range that ends where it starts, or before, is empty
empty_backwards : {A : Type 0} (xs : List A) (lo hi : ℕ) → hi ≤ lo → slice_range xs lo hi ≡ []
empty_backwards xs lo hi h = let none : hi - lo ≡ 0 = omega arith in ap (λ n. take n (drop lo xs)) none

-- a range within a list is granted
pub range_granted : (edits : List Edit) (lo hi : ℕ) → lo ≤ hi → hi ≤ length (list_of edits) → range_refusal edits lo hi ≡ None
range_granted edits lo hi order inside = cond-false _ _ _ (le-ltb hi lo order) ∙ cond-false _ _ _ (le-ltb (length (list_of edits)) hi inside)

-- the last so many elements of a list are a range of it
pub last_is_range : {A : Type 0} (n : ℕ) (xs : List A) → slice_range xs (length xs - n) (length xs) ≡ drop (length xs - n) xs
last_is_range n xs = take_all (length xs - (length xs - n)) (drop (length xs - n) xs) (omega (arith, length-drop (length xs - n) xs))

-- a range, and a span, of what a fold may go over is such
pub range_can_fold : (h : History) (lo hi : ℕ) → IsLegalInLimits h → CanFold (slice_range (list_of h.journal) lo hi)
range_can_fold h lo hi limits = part_can_fold (hi - lo) lo (list_of h.journal) (can_fold h limits)

pub span_can_fold : (xs : List ℤ) (span : Span) → CanFold xs → CanFold (span_of span xs)
span_can_fold xs (Between lo hi) can = part_can_fold (hi - lo) lo xs can
span_can_fold xs (Last n) can = subst CanFold (last_is_range n xs) (part_can_fold (length xs - (length xs - n)) (length xs - n) xs can)

-- what is false of the opposite is true
not_false : (b : Bool) → not b ≡ false → b ≡ true
not_false true is = refl
not_false false is = absurd (false≢true (sym is))

-- a range without an index ends at or before it, or starts after it
pub without_index : (lo hi i : ℕ) → has_index lo hi i ≡ false → (hi ≤ i) ⊎ (i < lo)
without_index lo hi i h =
    elim (cases_lt i lo) [
      | inl after ↦ inr after
      | inr from ↦ elim (cases_lt i hi) [
        | inl before ↦ absurd (false≢true (sym h ∙ (ap (λ b. b && ltb i hi) (le-leb lo i from) ∙ lt-ltb i hi before)))
        | inr past ↦ inl past
      ]
    ]

-- a range with an index starts at or before it, and ends after it
pub with_index : (lo hi i : ℕ) → has_index lo hi i ≡ true → (lo ≤ i) × (i < hi)
with_index lo hi i h =
    elim (cases_lt i lo) [
      | inl after ↦ absurd (false≢true (sym (ap (λ b. b && ltb i hi) (lt-leb lo i after)) ∙ h))
      | inr from ↦ elim (cases_lt i hi) [
        | inl before ↦ (from, before)
        | inr past ↦ absurd (false≢true (sym (ap (λ b. b && ltb i hi) (le-leb lo i from) ∙ le-ltb i hi past) ∙ h))
      ]
    ]

-- one more element at the end leaves a range without its index
more_elsewhere : {A : Type 0} (xs : List A) (x : A) (lo hi : ℕ) → (hi ≤ length xs) ⊎ (length xs < lo) → slice_range (xs ++ x ∷ []) lo hi ≡ slice_range xs lo hi
more_elsewhere xs x lo hi (inr past) =
    empty_past (xs ++ x ∷ []) lo hi (omega (arith, length-append xs (x ∷ []))) ∙ sym (empty_past xs lo hi (omega arith))
more_elsewhere xs x lo hi (inl inside) =
    elim (cases_lt lo hi) [
      | inl before ↦ part_of_push xs x lo (hi - lo) (omega arith)
      | inr backwards ↦ empty_backwards (xs ++ x ∷ []) lo hi backwards ∙ sym (empty_backwards xs lo hi backwards)
    ]

-- another element at an index leaves a range without it
set_elsewhere : {A : Type 0} (xs : List A) (i : ℕ) (x : A) (lo hi : ℕ) → (hi ≤ i) ⊎ (i < lo) → slice_range (slice_set xs i x) lo hi ≡ slice_range xs lo hi
set_elsewhere xs i x lo hi (inr before) = part_of_set xs i x lo (hi - lo) (inl before)
set_elsewhere xs i x lo hi (inl past) =
    elim (cases_lt lo hi) [
      | inl order ↦ part_of_set xs i x lo (hi - lo) (inr (omega arith))
      | inr backwards ↦ empty_backwards (slice_set xs i x) lo hi backwards ∙ sym (empty_backwards xs lo hi backwards)
    ]

-- two elements that were exchanged leave a range without both indices
swap_elsewhere : (xs ys : List ℤ) (i j lo hi : ℕ) → applied xs (Swap i j) ≡ Some ys → (has_index lo hi i || has_index lo hi j) ≡ false → slice_range ys lo hi ≡ slice_range xs lo hi
swap_elsewhere xs ys i j lo hi made apart =
    let done = swapped xs ys i j made in
    let both = or_parts _ _ apart in
    ap (λ zs. slice_range zs lo hi) done.2
    ∙ set_elsewhere (slice_set xs i (get_or xs j (pos 0))) j (get_or xs i (pos 0)) lo hi (without_index lo hi j both.1)
    ∙ set_elsewhere xs i (get_or xs j (pos 0)) lo hi (without_index lo hi i both.0)

-- an element that was exchanged with itself leaves the list
swap_same : (xs ys : List ℤ) (i : ℕ) → applied xs (Swap i i) ≡ Some ys → ys ≡ xs
swap_same xs ys i made =
    let done = swapped xs ys i i made in
    done.2 ∙ ap (λ zs. slice_set zs i (get_or xs i (pos 0))) (set-get_or xs i (pos 0)) ∙ set-get_or xs i (pos 0)

-- a list that was cut leaves a range without the indices behind the cut
cut_elsewhere : {A : Type 0} (xs : List A) (n lo hi : ℕ) → n ≤ length xs → min hi (length xs) ≤ max lo n → slice_range (take n xs) lo hi ≡ slice_range xs lo hi
cut_elsewhere xs n lo hi within apart =
    elim (cases_lt lo hi) [
      | inr backwards ↦ empty_backwards (take n xs) lo hi backwards ∙ sym (empty_backwards xs lo hi backwards)
      | inl order ↦ elim (cases_lt n hi) [
        | inr before ↦ part_of_take xs n lo (hi - lo) (omega arith)
        | inl behind ↦ elim (cases_lt lo (length xs)) [
          | inl starts ↦ let all : length xs ≤ n = omega arith in ap (λ zs. slice_range zs lo hi) (take_all n xs all)
          | inr past ↦ empty_past (take n xs) lo hi (omega (arith, length-take-le n xs within)) ∙ sym (empty_past xs lo hi past)
        ]
      ]
    ]

-- what was touched is known by its indices
same_touched : (t u : Touched) → indices_in t ≡ indices_in u → t ≡ u
same_touched Nothing Nothing same = refl
same_touched Nothing (One i) same = absurd (omega (arith, ap length same))
same_touched Nothing (Two i j) same = absurd (omega (arith, ap length same))
same_touched (One i) Nothing same = absurd (omega (arith, ap length same))
same_touched (One i) (One j) same = (cc)
same_touched (One i) (Two j k) same = absurd (omega (arith, ap length same))
same_touched (Two i j) Nothing same = absurd (omega (arith, ap length same))
same_touched (Two i j) (One k) same = absurd (omega (arith, ap length same))
same_touched (Two i j) (Two k l) same = (cc)

-- an edit writes at no index of a range in which nothing changed
unwritten : (changed : Changed) (t : Touched) (lo hi : ℕ) → indices_in changed.written ≡ indices_in t → has_changed (Between lo hi) changed ≡ false → has_written lo hi t ≡ false
unwritten changed t lo hi same apart = ap (has_written lo hi) (sym (same_touched changed.written t same)) ∙ (or_parts _ _ apart).0

-- and it drops none of its indices
undropped : (changed : Changed) (lo hi from to : ℕ) → changed.from ≡ from → changed.to ≡ to → has_changed (Between lo hi) changed ≡ false → min hi to ≤ max lo from
undropped changed lo hi from to begins ends apart =
    omega (arith, begins, ends, ltb-false (max lo changed.from) (min hi changed.to) (or_parts _ _ apart).1)

-- a write leaves a range without its index
written_elsewhere : (xs ys : List ℤ) (i : ℕ) (x : ℤ) (changed : Changed) (lo hi : ℕ) → applied xs (Write i x) ≡ Some ys → indices_in changed.written ≡ i ∷ [] → has_changed (Between lo hi) changed ≡ false → slice_range ys lo hi ≡ slice_range xs lo hi
written_elsewhere xs ys i x changed lo hi made written apart =
    ap (λ zs. slice_range zs lo hi) (sym (cond_some _ _ _ made).1) ∙ set_elsewhere xs i x lo hi (without_index lo hi i (unwritten changed (One i) lo hi written apart))

-- an edit leaves a range without an index that it changes
applied_elsewhere : (xs ys : List ℤ) (e : Edit) (changed : Changed) (lo hi : ℕ) → applied xs e ≡ Some ys → IsChangedBy xs e changed → has_changed (Between lo hi) changed ≡ false → slice_range ys lo hi ≡ slice_range xs lo hi
applied_elsewhere xs ys (Push x) changed lo hi made is apart =
    let same : xs ++ x ∷ [] ≡ ys = (cc) in
    ap (λ zs. slice_range zs lo hi) (sym same) ∙ more_elsewhere xs x lo hi (without_index lo hi (length xs) (unwritten changed (One (length xs)) lo hi is.written apart))
applied_elsewhere xs ys Pop changed lo hi made is apart =
    ap (λ zs. slice_range zs lo hi) (sym (cond_some _ _ _ made).1)
    ∙ cut_elsewhere xs (length xs - 1) lo hi (omega arith) (undropped changed lo hi (length xs - 1) (length xs) is.from is.to apart)
applied_elsewhere xs ys (Write i x) changed lo hi made is apart = written_elsewhere xs ys i x changed lo hi made is.written apart
applied_elsewhere xs ys (Reserve n) changed lo hi made is apart =
    let same : xs ≡ ys = (cc) in
    ap (λ zs. slice_range zs lo hi) (sym same)
applied_elsewhere xs ys (Swap i j) changed lo hi made is apart =
    elim (cases_Bool (eqb i j)) [
      | inl one ↦
          let same : j ≡ i = sym (eqb-true i j one) in
          ap (λ zs. slice_range zs lo hi) (swap_same xs ys i (subst (λ k. applied xs (Swap i k) ≡ Some ys) same made))
      | inr two ↦
          swap_elsewhere xs ys i j lo hi made (ap (λ b. not b && (has_index lo hi i || has_index lo hi j)) (sym two) ∙ unwritten changed (Two i j) lo hi is.written apart)
    ]
applied_elsewhere xs ys (Truncate n) changed lo hi made is apart =
    let parts = cond_some _ _ _ made in
    ap (λ zs. slice_range zs lo hi) (sym parts.1)
    ∙ cut_elsewhere xs n lo hi (leb-true n (length xs) parts.0) (undropped changed lo hi n (length xs) is.from is.to apart)

-- it leaves a span without an element that it changes
span_elsewhere : (xs ys : List ℤ) (e : Edit) (changed : Changed) (span : Span) → applied xs e ≡ Some ys → length ys ≡ size_after (length xs) e → IsChangedBy xs e changed → has_changed span changed ≡ false → span_of span ys ≡ span_of span xs
span_elsewhere xs ys e changed (Between lo hi) made long is apart = applied_elsewhere xs ys e changed lo hi made is apart
span_elsewhere xs ys e changed (Last n) made long is apart =
    let parts = or_parts _ _ apart in
    let still : changed.to ≡ changed.from = eqb-true changed.to changed.from (not_false _ parts.0) in
    let same : length ys ≡ length xs = long ∙ sym is.from ∙ sym still ∙ is.to in
    let lo = length xs - n in
    let unwritten : has_written lo (length xs) changed.written ≡ false = ap (λ m. has_written (m - n) m changed.written) (sym is.to) ∙ parts.1 in
    let undropped : ltb (max lo changed.from) (min (length xs) changed.to) ≡ false = le-ltb _ _ (omega (arith, is.to, still)) in
    let untouched : has_changed (Between lo (length xs)) changed ≡ false = ap₂ (λ a b. a || b) unwritten undropped in
    sym (last_is_range n ys)
    ∙ ap (λ m. slice_range ys (m - n) m) same
    ∙ applied_elsewhere xs ys e changed lo (length xs) made is untouched
    ∙ last_is_range n xs

-- an accepted edit does
pub edit_elsewhere : (h : History) (e : Edit) (changed : Changed) (span : Span) → IsLegalInLimits h → verdict_of h.limits h.journal e ≡ None → IsChangedBy (list_of h.journal) e changed
    → has_changed span changed ≡ false → span_of span (list_of (h.journal ++ e ∷ [])) ≡ span_of span (list_of h.journal)
edit_elsewhere h e changed span within accepted is apart =
    let possible = accepted_is_possible h.limits h.journal e accepted in
    let next = list_of-snoc h.journal e possible.0 within.legal possible.1 in
    let long : length possible.0 ≡ size_after (length (list_of h.journal)) e = ap length (sym next.1) ∙ (size_by_edit h e within accepted).0 in
    ap (span_of span) next.1 ∙ span_elsewhere (list_of h.journal) possible.0 e changed span possible.1 long is apart

-- one more element at the end is the last of a range that has its index
pub more_inside : {A : Type 0} (xs : List A) (x : A) (lo hi : ℕ) → has_index lo hi (length xs) ≡ true → slice_range (xs ++ x ∷ []) lo hi ≡ slice_range xs lo hi ++ x ∷ []
more_inside xs x lo hi inside =
    let parts = with_index lo hi (length xs) inside in
    ap (take (hi - lo)) (drop-append-le lo xs (x ∷ []) parts.0)
    ∙ take_all (hi - lo) (drop lo xs ++ x ∷ []) (omega (arith, parts.0, parts.1, length-append (drop lo xs) (x ∷ []), length-drop lo xs))
    ∙ sym (ap (λ ys. ys ++ x ∷ []) (take_all (hi - lo) (drop lo xs) (omega (arith, parts.0, parts.1, length-drop lo xs))))

-- so a span that has the index of an element that was pushed ends with it, if it is joined to that span
pub pushed_inside : (old new : List Edit) (changed : Changed) (span : Span) (x : ℤ) → has_changed span changed ≡ true → IfSome changed.pushed (IsPushed changed old new) → joined_to span changed.pushed ≡ Some x
    → span_of span (list_of new) ≡ span_of span (list_of old) ++ x ∷ []
pushed_inside old new changed (Last n) x inside is joined = absurd (none-some x joined)
pushed_inside old new changed (Between lo hi) x inside is joined =
    let pushed = subst (λ p. IfSome p (IsPushed changed old new)) joined is in
    ap (λ ys. slice_range ys lo hi) pushed.1 ∙ more_inside (list_of old) x lo hi (pushed.0 lo hi inside)

-- if an edit writes at only one index and drops none, a range with a changed element contains that index
has_only : (changed : Changed) (n lo hi : ℕ) → indices_in changed.written ≡ n ∷ [] → changed.to ≤ changed.from → has_changed (Between lo hi) changed ≡ true → has_index lo hi n ≡ true
has_only changed n lo hi one none inside =
    sym (ap (has_written lo hi) (same_touched changed.written (One n) one))
    ∙ sym (or-false (has_written lo hi changed.written))
    ∙ ap (λ b. has_written lo hi changed.written || b) (sym (le-ltb (max lo changed.from) (min hi changed.to) (omega (arith, none))))
    ∙ inside

-- a push brings the last element of the list
pub push_is_last : (h : History) (e : Edit) (changed : Changed) → replayed h.journal ≡ Some (list_of h.journal) → verdict_of h.limits h.journal e ≡ None → IsChangedBy (list_of h.journal) e changed
    → IfSome (pushed_by e) (IsPushed changed h.journal (h.journal ++ e ∷ []))
push_is_last h (Push x) changed legal accepted is =
    let possible = accepted_is_possible h.limits h.journal (Push x) accepted in
    let next = list_of-snoc h.journal (Push x) possible.0 legal possible.1 in
    let same : list_of h.journal ++ x ∷ [] ≡ possible.0 = (let made = possible.1 in cc) in
    (λ lo hi. has_only changed (length (list_of h.journal)) lo hi is.written (omega (arith, is.from, is.to)), next.1 ∙ sym same)
push_is_last h Pop changed legal accepted is = tt
push_is_last h (Write i x) changed legal accepted is = tt
push_is_last h (Reserve n) changed legal accepted is = tt
push_is_last h (Swap i j) changed legal accepted is = tt
push_is_last h (Truncate n) changed legal accepted is = tt
