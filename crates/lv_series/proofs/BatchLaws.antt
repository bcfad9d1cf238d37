-- Many pushes: what they make of a series, and when one of them is refused.
use Rattle.std.proofs.Common.{◌≡◌, ℕ, zero, suc, ℤ, ◌+◌, ◌-◌, ◌^◌, ◌<◌, ◌≤◌, Option, Some, None, List, [], ◌∷◌, ◌++◌, length, fold, nat_lt, refl, sym, ap, ◌∙◌, arith, inl, inr, append_assoc, append-nil, eq-eqb}
use Rattle.std.specs.Bool.{then_some}
use Rattle.std.proofs.lemmas.Bool.{cases_Bool, cond-false, cond-true, le-ltb, lt-ltb, ltb-false, ltb-true, ne_eqb}
use Rattle.std.proofs.lemmas.List.{length-map, length_push}
use Rattle.std.proofs.lemmas.Option.{none-some}
use Rattle.lv_series.specs.declared.edits.LongEdit.{LongEdit}
use Rattle.lv_series.specs.declared.edits.LongEdit.TheVariants.{Push}
use Rattle.lv_series.specs.declared.refusals.LongRefusal.{LongRefusal}
use Rattle.lv_series.specs.declared.refusals.LongRefusal.TheVariants.{Full, Worn}
use Rattle.lv_series.specs.Batches.{AcceptsEdits, first_refusal, pushes_of, verdict_of_edits, with_edit}
use Rattle.lv_series.specs.Series.{Held, SeriesState, changed, refused, size_of}
use Rattle.lv_series.specs.Trees.{KeepsKinds, TreesState}
use Rattle.lv_series.proofs.FreeLaws.{free_edit, free_push}
use Rattle.lv_series.proofs.SeriesLaws.{trees_kept, with_trees}

-- if the first of two refusals doesn't come, and neither does the second, neither comes
pub neither : (first later : Option LongRefusal) → first_refusal first later ≡ None → (first ≡ None) × (later ≡ None)
neither None later none = (refl, none)
neither (Some refusal) later none = absurd (none-some refusal (sym none))

-- what is kept with other elements
abbrev with_elements : Held → List ℤ → Held
with_elements h ys = record h { elements = ys }

-- pushes put their elements at the end
pub pushes_made : (h : Held) (xs : List ℤ) → fold changed h (pushes_of xs) ≡ with_elements h (h.elements ++ xs)
pushes_made h [] = ap (with_elements h) (sym (append-nil h.elements))
pushes_made h (x ∷ xs) = pushes_made (changed h (Push x)) xs ∙ ap (with_elements h) (append_assoc h.elements (x ∷ []) xs)

-- if nothing refuses one, there are edits and indices left for all
pub free_pushes : (s : SeriesState) (xs : List ℤ) → s.edits ≤ 18446744073709551615 → size_of s.held ≤ 2 ^ 62 → verdict_of_edits s (pushes_of xs) ≡ None → (s.edits + length xs ≤ 18446744073709551615) × (size_of s.held + length xs ≤ 2 ^ 62)
free_pushes s [] edits few free = (omega (arith, edits), omega (arith, few))
free_pushes s (x ∷ xs) edits few free =
    let parts = neither (refused s (Push x)) (verdict_of_edits (with_edit s (Push x)) (pushes_of xs)) free in
    let left = free_edit s (Push x) parts.0 in
    let room = free_push s.held x left.1 in
    let long = length_push s.held.elements x in
    let rest = free_pushes (with_edit s (Push x)) xs (omega (arith, edits, left.0)) (omega (arith, room, long)) parts.1 in
    (omega (arith, rest.0), omega (arith, rest.1, long))

-- a push is allowed, if there are an edit and an index left
allowed : (s : SeriesState) (x : ℤ) → s.edits < 18446744073709551615 → size_of s.held < 2 ^ 62 → refused s (Push x) ≡ None
allowed s x edits room =
    cond-false _ _ _ (ne_eqb s.edits 18446744073709551615 (λ same. omega (arith, same, edits))) ∙ cond-true _ _ _ (lt-ltb (size_of s.held) (2 ^ 62) room)

-- what comes after a push that is allowed
after_one : (s : SeriesState) (x : ℤ) (xs : List ℤ) (verdict : Option LongRefusal) → s.edits < 18446744073709551615 → size_of s.held < 2 ^ 62 → verdict_of_edits (with_edit s (Push x)) (pushes_of xs) ≡ verdict → verdict_of_edits s (pushes_of (x ∷ xs)) ≡ verdict
after_one s x xs verdict edits room rest = ap (λ r. first_refusal r (verdict_of_edits (with_edit s (Push x)) (pushes_of xs))) (allowed s x edits room) ∙ rest

-- so many are allowed
all_free : (s : SeriesState) (xs : List ℤ) → s.edits + length xs ≤ 18446744073709551615 → size_of s.held + length xs ≤ 2 ^ 62 → verdict_of_edits s (pushes_of xs) ≡ None
all_free s [] edits few = refl
all_free s (x ∷ xs) edits few =
    after_one s x xs None (omega (arith, edits)) (omega (arith, few)) (all_free (with_edit s (Push x)) xs (omega (arith, edits)) (omega (arith, few, length_push s.held.elements x)))

-- so many are allowed, and the next one is refused
stopped : (s : SeriesState) (xs : List ℤ) (n : ℕ) (why : LongRefusal) → n < length xs → s.edits + n ≤ 18446744073709551615 → size_of s.held + n ≤ 2 ^ 62 → ((t : SeriesState) (x : ℤ) → t.edits ≡ s.edits + n → size_of t.held ≡ size_of s.held + n → refused t (Push x) ≡ Some why) → verdict_of_edits s (pushes_of xs) ≡ Some why
stopped s [] n why many edits few stop = absurd (omega (arith, many))
stopped s (x ∷ xs) zero why many edits few stop = ap (λ r. first_refusal r (verdict_of_edits (with_edit s (Push x)) (pushes_of xs))) (stop s x (omega arith) (omega arith))
stopped s (x ∷ xs) (suc n) why many edits few stop =
    let long = length_push s.held.elements x in
    after_one s x xs (Some why) (omega (arith, edits)) (omega (arith, few))
    (stopped (with_edit s (Push x)) xs n why (omega (arith, many)) (omega (arith, edits)) (omega (arith, few, long)) (λ t y e z. stop t y (omega (arith, e)) (omega (arith, z, long))))

-- a refusal that comes if there is room for fewer
some_or_none : (room count : ℕ) (why : LongRefusal) (result verdict : Option LongRefusal) → (room < count → verdict ≡ Some why) → (count ≤ room → verdict ≡ None) → result ≡ then_some (nat_lt room count) why → result ≡ verdict
some_or_none room count why result verdict more all is =
    elim (cases_Bool (nat_lt room count)) [
      | inl many ↦ is ∙ ap (λ b. then_some b why) many ∙ sym (more (ltb-true room count many))
      | inr few ↦ is ∙ ap (λ b. then_some b why) few ∙ sym (all (ltb-false room count few))
    ]

-- what pushes are answered if the edits run out first, or together with the indices
pub worn_or_none : (s : SeriesState) (xs : List ℤ) (size : ℕ) (result : Option LongRefusal) → s.edits ≤ 18446744073709551615 → size ≡ size_of s.held → size ≤ 2 ^ 62 → 18446744073709551615 - s.edits ≤ 2 ^ 62 - size → result ≡ then_some (nat_lt (18446744073709551615 - s.edits) (length xs)) Worn → result ≡ verdict_of_edits s (pushes_of xs)
worn_or_none s xs size result edits size_is few first is =
    let worn : (t : SeriesState) (x : ℤ) → t.edits ≡ s.edits + (18446744073709551615 - s.edits) → size_of t.held ≡ size_of s.held + (18446744073709551615 - s.edits) → refused t (Push x) ≡ Some Worn = λ t x e _. cond-true _ _ _ (eq-eqb t.edits 18446744073709551615 (omega (arith, e, edits))) in
    some_or_none (18446744073709551615 - s.edits) (length xs) Worn result _ (λ more. stopped s xs (18446744073709551615 - s.edits) Worn more (omega (arith, edits)) (omega (arith, few, first, size_is)) worn)
    (λ most. all_free s xs (omega (arith, most, edits)) (omega (arith, most, first, few, size_is))) is

-- if the indices do
pub full_or_none : (s : SeriesState) (xs : List ℤ) (size : ℕ) (result : Option LongRefusal) → size ≡ size_of s.held → size ≤ 2 ^ 62 → 2 ^ 62 - size < 18446744073709551615 - s.edits → result ≡ then_some (nat_lt (2 ^ 62 - size) (length xs)) Full → result ≡ verdict_of_edits s (pushes_of xs)
full_or_none s xs size result size_is few first is =
    let full : (t : SeriesState) (x : ℤ) → t.edits ≡ s.edits + (2 ^ 62 - size) → size_of t.held ≡ size_of s.held + (2 ^ 62 - size) → refused t (Push x) ≡ Some Full = λ t x e z. cond-false _ _ _ (ne_eqb t.edits 18446744073709551615 (λ same. omega (arith, same, e, first))) ∙ cond-false _ _ _ (le-ltb (size_of t.held) (2 ^ 62) (omega (arith, z, size_is, few))) in
    some_or_none (2 ^ 62 - size) (length xs) Full result _ (λ more. stopped s xs (2 ^ 62 - size) Full more (omega (arith, first)) (omega (arith, few, size_is)) full)
    (λ most. all_free s xs (omega (arith, most, first)) (omega (arith, most, few, size_is))) is

-- many edits were accepted
pub all_accepted : (old new : TreesState) (held next : Held) (edits edit : ℕ) (es : List LongEdit) → KeepsKinds old new → verdict_of_edits (with_trees old held edits) es ≡ None → next ≡ fold changed held es → edit ≡ edits + length es → AcceptsEdits (with_trees old held edits) es edit (with_trees new next edit)
all_accepted old new held next edits edit es kept free is number = record {
  free = free;
  edit_is = number;
  after = trees_kept old new (fold changed held es) next edit kept is ∙ ap (with_trees old (fold changed held es)) number;
}

-- as many pushes as elements
pub count_pushes : (xs : List ℤ) → length (pushes_of xs) ≡ length xs
count_pushes xs = length-map xs (λ x. Push x)
