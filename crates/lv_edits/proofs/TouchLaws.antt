-- The edit that touched a node last, after one more edit, and the elements that an edit leaves as they were.
use Rattle.std.proofs.Common.{◌≡◌, ℕ, ℤ, pos, suc, ◌+◌, ◌-◌, ◌*◌, ◌/◌, ◌^◌, ◌⊎◌, min, ◌<◌, ◌≤◌, ◌||◌, true, false, if◌then◌else◌, List, [], ◌∷◌, ◌++◌, length, take, drop, Option, None, Some, get_or, slice_get, slice_set, refl, sym, ap, ◌∙◌, add-one, inl, inr, arith}
use Rattle.std.specs.List.{list_any}
use Rattle.std.specs.Option.{option_map_or}
use Rattle.std.proofs.lemmas.Bool.{and_from, and_parts, cases_Bool, cases_lt, cond-false, cond-true, eqb-false, eq-eqb, eqb-true, le-leb, leb-true, or_cases, or_left, or_parts, or_right}
use Rattle.std.proofs.lemmas.List.{get_or_append_left, get_or_push, length-drop, length_push, length-set, length-take, take_all, take_at, take-append-le}
use Rattle.std.proofs.lemmas.Option.{cond_some, same_Some, slice_get-get_or}
use Rattle.std.proofs.Math.Bool.{or-false}
use Rattle.std.proofs.Math.Nat.{div-div-eq-div-mul, div-eq_of_lt-le}
use Rattle.std.proofs.lemmas.Grind.{pow_more}
use Rattle.lv_geometry.specs.Nodes.{covers, is_node}
use Rattle.lv_geometry.specs.declared.nodes.Node.{Node}
use Rattle.lv_geometry.proofs.NodeLaws.{some_width}
use Rattle.lv_edits.specs.declared.edit.Edit.{Edit}
use Rattle.lv_edits.specs.declared.edit.Edit.TheVariants.{Push, Pop, Write, Reserve, Swap, Truncate}
use Rattle.lv_edits.specs.History.{applied, list_of, replayed}
use Rattle.lv_geometry.proofs.Ranges.{last_pass, last_pass-more, last_pass-none, last_pass_le, last_pass_mono, last_pass_same}
use Rattle.lv_edits.proofs.Slices.{part_of_push, part_of_set, part_of_take}
use Rattle.lv_edits.proofs.HistoryLaws.{by_last_edit, list_of_replayed, list_of-snoc, replayed-nil, swapped}
use Rattle.lv_edits.specs.Touch.{elements_under, indices_written, is_whole, touched_by, touches, touches_at}

-- an edit that writes nowhere touches no node
pub touches_nowhere : (xs : List ℤ) (e : Edit) (n : Node) → indices_written xs e ≡ [] → touches xs e n ≡ false
touches_nowhere xs e n nowhere = ap (list_any (covers n)) nowhere

-- one that writes at an index touches the nodes that have it
pub touches_there : (xs : List ℤ) (e : Edit) (n : Node) (i : ℕ) → indices_written xs e ≡ i ∷ [] → touches xs e n ≡ covers n i
touches_there xs e n i there = ap (list_any (covers n)) there ∙ or-false (covers n i)

-- and one that writes at two indices, those that have either
pub touches_either : (xs : List ℤ) (e : Edit) (n : Node) (i j : ℕ) → indices_written xs e ≡ i ∷ j ∷ [] → touches xs e n ≡ (covers n i || covers n j)
touches_either xs e n i j both =
    ap (list_any (covers n)) both ∙ ap (λ rest. covers n i || rest) (or-false (covers n j))

-- the edits before the last one touch the same nodes as without it
touches_at_before : (es : List Edit) (e : Edit) (n : Node) (j : ℕ) → j < length es → touches_at (es ++ e ∷ []) n j ≡ touches_at es n j
touches_at_before es e n j before =
    let front : take j (es ++ e ∷ []) ≡ take j es = take-append-le j es (e ∷ []) (omega arith) in
    let edit : slice_get (es ++ e ∷ []) j ≡ slice_get es j = slice_get-get_or (es ++ e ∷ []) j e (omega (arith, length_push es e)) ∙ ap Some (get_or_append_left es (e ∷ []) e j before) ∙ sym (slice_get-get_or es j e before) in
    rw (front, edit)

-- the last edit touches a node if it does so on the list before it
touches_at_last : (es : List Edit) (e : Edit) (n : Node) → touches_at (es ++ e ∷ []) n (length es) ≡ touches (list_of es) e n
touches_at_last es e n =
    let front : take (length es) (es ++ e ∷ []) ≡ es = take_at es (e ∷ []) (length es) refl in
    let edit : slice_get (es ++ e ∷ []) (length es) ≡ Some e = slice_get-get_or (es ++ e ∷ []) (length es) e (omega (arith, length_push es e)) ∙ ap Some (get_or_push es e e (length es) refl) in
    rw (front, edit)

-- the last edit that touched a node is the last place of the edits at which one touches it
touched_by_is : (es : List Edit) (n : Node) → touched_by es n ≡ last_pass (touches_at es n) (length es)
unfolding touched_by last_pass
touched_by_is es n = refl

-- one more edit is the last that touched a node if it touches it; otherwise that is the one before
pub touched_by-snoc : (es : List Edit) (e : Edit) (n : Node) → touched_by (es ++ e ∷ []) n ≡ if touches (list_of es) e n then length es + 1 else touched_by es n
touched_by-snoc es e n =
    let long : length (es ++ e ∷ []) ≡ suc (length es) = omega (arith, length_push es e) in
    let before = last_pass_same (touches_at (es ++ e ∷ []) n) (touches_at es n) (length es) (touches_at_before es e n) in
    touched_by_is (es ++ e ∷ []) n ∙ rw (long, last_pass-more (touches_at (es ++ e ∷ []) n) (length es), touches_at_last es e n, before, ← touched_by_is es n, add-one)

-- if there are no edits, none touched a node
pub touched_by-none : (n : Node) → touched_by [] n ≡ 0
touched_by-none n = touched_by_is [] n ∙ last_pass-none _

-- the last edit that touched a node is one of the edits
pub touched_by-le : (es : List Edit) (n : Node) → touched_by es n ≤ length es
touched_by-le es n = omega (arith, touched_by_is es n, last_pass_le (touches_at es n) (length es))

-- an index that a node does not have comes before its first or after its last
outside : (n : Node) (i : ℕ) → covers n i ≡ false → (i < n.number * 8 ^ n.level) ⊎ ((n.number + 1) * 8 ^ n.level ≤ i)
outside n i not_there =
    elim (cases_lt i (n.number * 8 ^ n.level)) [
      | inl before ↦ inl before
      | inr from ↦ elim (cases_lt i ((n.number + 1) * 8 ^ n.level)) [
        | inl within ↦ absurd (eqb-false _ _ not_there (div-eq_of_lt-le (8 ^ n.level) from within))
        | inr after ↦ inr after
      ]
    ]

-- the elements of a node stay if an element outside of the node is overwritten
part_of_outside : (xs : List ℤ) (n : Node) (i : ℕ) (x : ℤ) → covers n i ≡ false → take (8 ^ n.level) (drop (n.number * 8 ^ n.level) (slice_set xs i x)) ≡ take (8 ^ n.level) (drop (n.number * 8 ^ n.level) xs)
part_of_outside xs n i x not_there =
    let apart : (i < n.number * 8 ^ n.level) ⊎ (n.number * 8 ^ n.level + 8 ^ n.level ≤ i) = elim (outside n i not_there) [
      | inl before ↦ inl before
      | inr after ↦ inr (omega arith)
    ] in
    part_of_set xs i x (n.number * 8 ^ n.level) (8 ^ n.level) apart

-- an edit that does not touch a node, all of whose indices exist after it, leaves them and their elements as they were
pub untouched_cells : (xs ys : List ℤ) (e : Edit) (n : Node) → applied xs e ≡ Some ys → touches xs e n ≡ false → (n.number + 1) * 8 ^ n.level ≤ length ys → ((n.number + 1) * 8 ^ n.level ≤ length xs) × (take (8 ^ n.level) (drop (n.number * 8 ^ n.level) ys) ≡ take (8 ^ n.level) (drop (n.number * 8 ^ n.level) xs))
untouched_cells xs ys (Push x) n made untouched whole =
    let next : ys ≡ xs ++ x ∷ [] = sym (same_Some _ _ made) in
    let long : (n.number + 1) * 8 ^ n.level ≤ length xs + 1 = omega (arith, ap length next, length_push xs x) in
    let below : (n.number + 1) * 8 ^ n.level ≤ length xs = elim (outside n (length xs) (or_parts _ _ untouched).0) [
      | inl before ↦ absurd (omega (arith, some_width n.level))
      | inr after ↦ after
    ] in
    (below, ap (λ l. take (8 ^ n.level) (drop (n.number * 8 ^ n.level) l)) next ∙ part_of_push xs x (n.number * 8 ^ n.level) (8 ^ n.level) (omega arith))
untouched_cells xs ys Pop n made untouched whole =
    let next : ys ≡ take (length xs - 1) xs = sym (cond_some _ _ _ made).1 in
    let long : length ys ≡ min (length xs - 1) (length xs) = ap length next ∙ length-take (length xs - 1) xs in
    (omega arith, ap (λ l. take (8 ^ n.level) (drop (n.number * 8 ^ n.level) l)) next ∙ part_of_take xs (length xs - 1) (n.number * 8 ^ n.level) (8 ^ n.level) (omega arith))
untouched_cells xs ys (Write i x) n made untouched whole =
    let next : ys ≡ slice_set xs i x = sym (cond_some _ _ _ made).1 in
    let long : length ys ≡ length xs = ap length next ∙ length-set xs i x in
    (omega arith, ap (λ l. take (8 ^ n.level) (drop (n.number * 8 ^ n.level) l)) next ∙ part_of_outside xs n i x (or_parts _ _ untouched).0)
untouched_cells xs ys (Reserve k) n made untouched whole =
    let next : ys ≡ xs = sym (same_Some _ _ made) in
    (omega (arith, ap length next), ap (λ l. take (8 ^ n.level) (drop (n.number * 8 ^ n.level) l)) next)
untouched_cells xs ys (Swap i j) n made untouched whole =
    let done = swapped xs ys i j made in
    let between = slice_set xs i (get_or xs j (pos 0)) in
    let long : length ys ≡ length xs = ap length done.2 ∙ length-set between j (get_or xs i (pos 0)) ∙ length-set xs i (get_or xs j (pos 0)) in
    let apart = or_parts _ _ untouched in
    (omega arith, ap (λ l. take (8 ^ n.level) (drop (n.number * 8 ^ n.level) l)) done.2 ∙ part_of_outside between n j (get_or xs i (pos 0)) (or_parts _ _ apart.1).0 ∙ part_of_outside xs n i (get_or xs j (pos 0)) apart.0)
untouched_cells xs ys (Truncate k) n made untouched whole =
    let next : ys ≡ take k xs = sym (cond_some _ _ _ made).1 in
    let long : length ys ≡ min k (length xs) = ap length next ∙ length-take k xs in
    (omega arith, ap (λ l. take (8 ^ n.level) (drop (n.number * 8 ^ n.level) l)) next ∙ part_of_take xs k (n.number * 8 ^ n.level) (8 ^ n.level) (omega arith))

-- a whole node has all its indices below the size
pub whole_below : (es : List Edit) (n : Node) → is_whole es n ≡ true → (n.number + 1) * 8 ^ n.level ≤ length (list_of es)
whole_below es n whole = leb-true _ _ (and_parts _ _ whole).1

-- no node of an empty vector is whole
pub none_whole : (n : Node) → is_whole [] n ≡ true → ⊥
none_whole n whole = omega (arith, whole_below [] n whole, some_width n.level, ap length (list_of_replayed [] [] replayed-nil))

-- a node of a level from 1 to 6 is full if all its indices are below the size
pub whole_from : (es : List Edit) (n : Node) → is_node n ≡ true → (n.number + 1) * 8 ^ n.level ≤ length (list_of es) → is_whole es n ≡ true
whole_from es n node below = and_from _ _ node (le-leb _ _ below)

-- an edit that does not touch a node that is whole after it left it whole, with the same elements
pub untouched_keeps : (es : List Edit) (e : Edit) (ys : List ℤ) (n : Node) → replayed es ≡ Some (list_of es) → applied (list_of es) e ≡ Some ys → touches (list_of es) e n ≡ false → is_whole (es ++ e ∷ []) n ≡ true → (is_whole es n ≡ true) × (elements_under (es ++ e ∷ []) n ≡ elements_under es n)
untouched_keeps es e ys n legal possible untouched whole =
    let same : list_of (es ++ e ∷ []) ≡ ys = (list_of-snoc es e ys legal possible).1 in
    let below : (n.number + 1) * 8 ^ n.level ≤ length ys = omega (arith, ap length same, whole_below (es ++ e ∷ []) n whole) in
    let kept = untouched_cells (list_of es) ys e n possible untouched below in
    (whole_from es n (and_parts _ _ whole).0 kept.0, ap (λ xs. take (8 ^ n.level) (drop (n.number * 8 ^ n.level) xs)) same ∙ kept.1)

-- a whole node has as many elements as indices
pub elements_under-length : (es : List Edit) (n : Node) → is_whole es n ≡ true → length (elements_under es n) ≡ 8 ^ n.level
elements_under-length es n whole =
    omega (arith, whole_below es n whole, length-take (8 ^ n.level) (drop (n.number * 8 ^ n.level) (list_of es)), length-drop (n.number * 8 ^ n.level) (list_of es))

-- a whole node was touched
pub whole_was_touched : (es : List Edit) (n : Node) → replayed es ≡ Some (list_of es) → is_whole es n ≡ true → 1 ≤ touched_by es n
whole_was_touched es n legal =
    by_last_edit (λ es. is_whole es n ≡ true → 1 ≤ touched_by es n)
    (λ whole. absurd (none_whole n whole))
    (λ es e ys legal possible before whole. elim (cases_Bool (touches (list_of es) e n)) [
      | inl touched ↦ omega (arith, touched_by-snoc es e n ∙ cond-true _ _ _ touched)
      | inr untouched ↦ omega (arith, touched_by-snoc es e n ∙ cond-false _ _ _ untouched, before (untouched_keeps es e ys n legal possible untouched whole).0)
    ])
    es legal

-- one more edit touches a node no earlier
pub touched_by_grows : (es : List Edit) (e : Edit) (n : Node) → touched_by es n ≤ touched_by (es ++ e ∷ []) n
touched_by_grows es e n =
    elim (cases_Bool (touches (list_of es) e n)) [
      | inl touched ↦ omega (arith, touched_by-le es n, touched_by-snoc es e n ∙ cond-true _ _ _ touched)
      | inr untouched ↦ omega (arith, touched_by-snoc es e n ∙ cond-false _ _ _ untouched)
    ]

-- a node is as it was after the first v edits: whole then, with the same elements, and touched by the same edit
abbrev IsAsAfter : ℕ → Node → List Edit → Type 0
IsAsAfter v n es =
    (is_whole (take v es) n ≡ true) × (elements_under es n ≡ elements_under (take v es) n) × (touched_by es n ≡ touched_by (take v es) n)

-- a node is as it was after all edits
as_after_all : (es : List Edit) (v : ℕ) (n : Node) → length es ≤ v → is_whole es n ≡ true → IsAsAfter v n es
as_after_all es v n all whole = rw (take_all v es all) (whole, refl, refl)

-- a node stays as it was under an edit that does not touch it
as_before : (es : List Edit) (e : Edit) (v : ℕ) (n : Node) → v ≤ length es → elements_under (es ++ e ∷ []) n ≡ elements_under es n → touched_by (es ++ e ∷ []) n ≡ touched_by es n → IsAsAfter v n es → IsAsAfter v n (es ++ e ∷ [])
as_before es e v n early cells touched before =
    rw (take-append-le v es (e ∷ []) early) (before.0, cells ∙ before.1, touched ∙ before.2)

-- a whole node that no edit after the first v touched is as it was after them
pub untouched_since : (es : List Edit) (v : ℕ) (n : Node) → replayed es ≡ Some (list_of es) → is_whole es n ≡ true → touched_by es n ≤ v → (is_whole (take v es) n ≡ true) × (elements_under es n ≡ elements_under (take v es) n) × (touched_by es n ≡ touched_by (take v es) n)
untouched_since es v n legal =
    by_last_edit (λ es. is_whole es n ≡ true → touched_by es n ≤ v → IsAsAfter v n es)
    (λ whole early. as_after_all [] v n (omega arith) whole)
    (λ es e ys legal possible before whole early. elim (cases_lt (length es) v) [
      | inl all ↦ as_after_all (es ++ e ∷ []) v n (omega (arith, length_push es e)) whole
      | inr later ↦ elim (cases_Bool (touches (list_of es) e n)) [
        | inl touched ↦ absurd (omega (arith, touched_by-snoc es e n ∙ cond-true _ _ _ touched))
        | inr untouched ↦
            let same = touched_by-snoc es e n ∙ cond-false _ _ _ untouched in
            let kept = untouched_keeps es e ys n legal possible untouched whole in
            as_before es e v n later kept.1 same (before kept.0 (omega arith))
      ]
    ])
    es legal

-- the parent of a node covers what the node covers
pub covers_parent : (child parent : Node) (i : ℕ) → parent.level ≡ child.level + 1 → parent.number ≡ child.number / 8 → covers child i ≡ true → covers parent i ≡ true
covers_parent child parent i level number covered =
    let at : i / 8 ^ child.level ≡ child.number = eqb-true _ _ covered in
    let wide : 8 ^ parent.level ≡ 8 ^ child.level * 8 = ap (λ l. 8 ^ l) level ∙ pow_more 8 child.level in
    eq-eqb _ _ (ap (λ w. i / w) wide ∙ sym (div-div-eq-div-mul i (8 ^ child.level) 8) ∙ ap (λ m. m / 8) at ∙ sym number)

-- the parent of a node covers one of some indices if the node does
covers_one_parent : (child parent : Node) (indices : List ℕ) → parent.level ≡ child.level + 1 → parent.number ≡ child.number / 8 → list_any (covers child) indices ≡ true → list_any (covers parent) indices ≡ true
covers_one_parent child parent [] level number covered = covered
covers_one_parent child parent (i ∷ rest) level number covered =
    elim (or_cases (covers child i) (list_any (covers child) rest) covered) [
      | inl here ↦ or_left _ _ (covers_parent child parent i level number here)
      | inr later ↦ or_right _ _ (covers_one_parent child parent rest level number later)
    ]

-- an edit that touches a node touches its parent
pub touches_parent : (xs : List ℤ) (e : Edit) (child parent : Node) → parent.level ≡ child.level + 1 → parent.number ≡ child.number / 8 → touches xs e child ≡ true → touches xs e parent ≡ true
touches_parent xs e child parent level number touched = covers_one_parent child parent (indices_written xs e) level number touched

-- if an optional edit touches a node, it touches the node's parent
touches_parent_at : (xs : List ℤ) (o : Option Edit) (child parent : Node) → parent.level ≡ child.level + 1 → parent.number ≡ child.number / 8 → option_map_or (λ e. touches xs e child) o false ≡ true → option_map_or (λ e. touches xs e parent) o false ≡ true
touches_parent_at xs None child parent level number touched = touched
touches_parent_at xs (Some e) child parent level number touched = touches_parent xs e child parent level number touched

-- so a node was touched no later than its parent
pub touched_by_parent : (es : List Edit) (child parent : Node) → parent.level ≡ child.level + 1 → parent.number ≡ child.number / 8 → touched_by es child ≤ touched_by es parent
touched_by_parent es child parent level number =
    let no_later = last_pass_mono (touches_at es child) (touches_at es parent) (length es) (λ j. touches_parent_at (list_of (take j es)) (slice_get es j) child parent level number) in
    omega (arith, touched_by_is es child, touched_by_is es parent)
