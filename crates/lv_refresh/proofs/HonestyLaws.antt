-- Contents that were taken honestly stay so, whatever happens later. If their node is as it was then, they are its current ones, and their fold
-- is the fold of its elements.
use Rattle.std.proofs.Common.{◌≡◌, ℕ, ℤ, zero, suc, ◌+◌, ◌-◌, ◌*◌, ◌^◌, ◌<◌, ◌≤◌, ◌⊎◌, true, if◌then◌else◌, Some, List, [], ◌∷◌, ◌++◌, length, take, drop, map, fold, All, slice_get, nat_le, refl, sym, ap, ◌∙◌, subst, inl, inr, arith}
use Rattle.std.specs.List.{flat_map, range_with_len}
use Rattle.std.proofs.Math.Nat.{mul-le-mul_right, mul_comm}
use Rattle.std.proofs.Math.Seq.{take-add, take-append_seam, drop-append_seam}
use Rattle.std.proofs.lemmas.Bool.{and_from, and_parts, cases_Bool, cases_lt, cond-false, cond-true, eq-eqb, le-leb, leb-true}
use Rattle.std.proofs.lemmas.Grind.{pow_more}
use Rattle.std.proofs.lemmas.List.{drop-drop, length-append, length_push, take-append-le}
use Rattle.std.proofs.lemmas.List.Elements.{All-drop, All-from_get_or, All-get_or, All-same, All-take}
use Rattle.std.proofs.lemmas.List.FromFn.{fill_by_all, get_or-range_with_len, length-range_with_len}
use Rattle.std.proofs.lemmas.List.Sums.{AllPass-from_list_all, fold-append, list_all-from_AllPass}
use Rattle.std.proofs.lemmas.Option.{get_or_from_slice_get}
use Rattle.lv_geometry.specs.declared.nodes.Node.{Node}
use Rattle.lv_geometry.specs.Elements.{IsElement}
use Rattle.lv_geometry.specs.Nodes.{child, is_below, is_node, same_node}
use Rattle.lv_bodies.specs.Body.{BodyLaws, CanFold, Operations, fold_of}
use Rattle.lv_bodies.specs.FoldLaws.{fold_of-within, going_on-is_join}
use Rattle.lv_edits.specs.declared.edit.Edit.{Edit}
use Rattle.lv_edits.specs.History.{list_of, replayed}
use Rattle.lv_edits.specs.Touch.{elements_under, is_whole, touched_by}
use Rattle.lv_edits.proofs.TouchLaws.{elements_under-length, touched_by-le, touched_by_grows, touched_by_parent, untouched_since, whole_below, whole_from}
use Rattle.lv_summary.proofs.FoldableLaws.{part_can_fold}
use Rattle.lv_summary.proofs.TableLaws.{same_node-eq}
use Rattle.lv_refresh.specs.declared.contents.Contents.{Contents}
use Rattle.lv_refresh.specs.declared.contents.Contents.TheVariants.{Children, Elements}
use Rattle.lv_refresh.specs.declared.contents.Eight.{Eight}
use Rattle.lv_refresh.specs.Claim.{children_fresh, wants_job}
use Rattle.lv_refresh.specs.Contents.{CanFoldContents, fold_of_contents, in_order}
use Rattle.lv_refresh.specs.Honesty.{AreContents, IsHonest, Stands}
use Rattle.lv_refresh.specs.Record.{Record, is_fresh, is_version}

-- a node's width is eight times a child's
pub child_width : (n : Node) → 1 < n.level → 8 ^ n.level ≡ 8 * 8 ^ (n.level - 1)
child_width n above =
    let next : n.level - 1 + 1 ≡ n.level = omega arith in
    ap (λ l. 8 ^ l) (sym next) ∙ pow_more 8 (n.level - 1) ∙ mul_comm (8 ^ (n.level - 1)) 8

-- the end of one of eight parts of a width is no later than the end of all
part_below : (number k w : ℕ) → k < 8 → (8 * number + k + 1) * w ≤ (number + 1) * (8 * w)
part_below number k w within =
    let parts : (k + 1) * w ≤ 8 * w = mul-le-mul_right w (omega arith) in
    omega arith

-- a child of a whole node is whole
pub child_whole : (es : List Edit) (n : Node) (k : ℕ) → 1 < n.level → k < 8 → is_whole es n ≡ true → is_whole es (child n k) ≡ true
child_whole es n k above within whole =
    let levels = and_parts (nat_le 1 n.level) (nat_le n.level 6) (and_parts (is_node n) (is_below n (length (list_of es))) whole).0 in
    let most : n.level ≤ 6 = leb-true n.level 6 levels.1 in
    let wide : (n.number + 1) * 8 ^ n.level ≡ (n.number + 1) * (8 * 8 ^ (n.level - 1)) = ap (λ w. (n.number + 1) * w) (child_width n above) in
    let ends = part_below n.number k (8 ^ (n.level - 1)) within in
    let all = whole_below es n whole in
    whole_from es (child n k) (and_from _ _ (le-leb 1 (n.level - 1) (omega arith)) (le-leb (n.level - 1) 6 (omega arith))) (omega (arith, all, wide, ends))

-- a child was touched no later than its node
pub child_touched : (es : List Edit) (n : Node) (k : ℕ) → 1 < n.level → k < 8 → touched_by es (child n k) ≤ touched_by es n
child_touched es n k above within =
    touched_by_parent es (child n k) n (omega arith) (omega arith)

-- if all eight children are fresh, each of them is
pub each_child_fresh : (r : Record) (n : Node) → children_fresh r n ≡ true → (k : ℕ) → k < 8 → is_fresh r (child n k) ≡ true
each_child_fresh r n fresh k within =
    let all = AllPass-from_list_all (λ k. is_fresh r (child n k)) (range_with_len 0 8) fresh in
    subst (λ j. is_fresh r (child n j) ≡ true) (get_or-range_with_len 0 8 k 0 within ∙ omega arith) (All-get_or (λ k. is_fresh r (child n k) ≡ true) (range_with_len 0 8) k 0 (omega (arith, length-range_with_len 0 8)) all)

-- if each of the eight children is fresh, all of them are
pub children_fresh_from : (r : Record) (n : Node) → ((k : ℕ) → k < 8 → is_fresh r (child n k) ≡ true) → children_fresh r n ≡ true
children_fresh_from r n each =
    list_all-from_AllPass (λ k. is_fresh r (child n k)) (range_with_len 0 8) (All-from_get_or (λ k. is_fresh r (child n k) ≡ true) (range_with_len 0 8) 0 (λ k inside.
    let within : k < 8 = omega (arith, length-range_with_len 0 8) in
    subst (λ j. is_fresh r (child n j) ≡ true) (sym (get_or-range_with_len 0 8 k 0 within ∙ omega arith)) (each k within)))

-- a node that is fresh is whole, and kept at its touched number
parts_of_fresh : (r : Record) (n : Node) → is_fresh r n ≡ true → (is_whole r.edits n ≡ true) × (is_version (touched_by r.edits n) (r.kept n) ≡ true)
parts_of_fresh r n fresh = and_parts (is_whole r.edits n) (is_version (touched_by r.edits n) (r.kept n)) fresh

-- a child that is fresh, and that no edit after the first v touched, had the same elements after them, and is kept at
-- its touched number of then
child_then : (r : Record) (n : Node) (v k : ℕ) → replayed r.edits ≡ Some (list_of r.edits) → is_fresh r (child n k) ≡ true → touched_by r.edits (child n k) ≤ v → (elements_under r.edits (child n k) ≡ elements_under (take v r.edits) (child n k)) × (is_version (touched_by (take v r.edits) (child n k)) (r.kept (child n k)) ≡ true)
child_then r n v k legal fresh early =
    let parts = parts_of_fresh r (child n k) fresh in
    let same = untouched_since r.edits v (child n k) legal parts.0 early in
    (same.1, ap (λ edit. is_version edit (r.kept (child n k))) (sym same.2) ∙ parts.1)

-- current contents of a whole node are those that it had after the edit that touched it last
contents_then : {S : Type 0} (o : Operations S) (r : Record) (n : Node) (c : Contents S) → replayed r.edits ≡ Some (list_of r.edits) → is_whole r.edits n ≡ true → Stands o r n c → AreContents o (take (touched_by r.edits n) r.edits) n c
contents_then o r n (Elements xs) legal whole stands =
    (stands.0, stands.1 ∙ (untouched_since r.edits (touched_by r.edits n) n legal whole (omega arith)).1)
contents_then o r n (Children summaries) legal whole stands = (
  stands.0,
  λ k within.
      stands.2 k within
      ∙ ap (λ xs. Some (fold_of o xs)) (child_then r n (touched_by r.edits n) k legal (each_child_fresh r n stands.1 k within) (child_touched r.edits n k stands.0 within)).0,
)

-- if contents of a node above level 1 are current, its children are kept at the numbers at which they were touched when the node was touched last
children_then : {S : Type 0} (o : Operations S) (r : Record) (n : Node) (c : Contents S) → replayed r.edits ≡ Some (list_of r.edits) → Stands o r n c → 1 < n.level → (k : ℕ) → k < 8 → is_version (touched_by (take (touched_by r.edits n) r.edits) (child n k)) (r.kept (child n k)) ≡ true
children_then o r n (Elements xs) legal stands above k within = absurd (omega (arith, stands.0))
children_then o r n (Children summaries) legal stands above k within =
    (child_then r n (touched_by r.edits n) k legal (each_child_fresh r n stands.1 k within) (child_touched r.edits n k above within)).1

-- current contents of a whole node are honest at the number of the edit that touched it last
pub honest_of_standing : {S : Type 0} (o : Operations S) (r : Record) (n : Node) (v : ℕ) (c : Contents S) → replayed r.edits ≡ Some (list_of r.edits) → is_whole r.edits n ≡ true → v ≡ touched_by r.edits n → Stands o r n c → IsHonest o r n v c
honest_of_standing o r n v c legal whole at stands =
    rw at record {
      node = (and_parts (is_node n) (is_below n (length (list_of r.edits))) whole).0;
      past = touched_by-le r.edits n;
      whole = (untouched_since r.edits (touched_by r.edits n) n legal whole (omega arith)).0;
      touched = sym (untouched_since r.edits (touched_by r.edits n) n legal whole (omega arith)).2;
      contents_then = contents_then o r n c legal whole stands;
      children = λ above k within. inl (children_then o r n c legal stands above k within);
    }

-- a node that wants a job is whole
pub whole_of_wanted : (r : Record) (n : Node) → wants_job r n ≡ true → is_whole r.edits n ≡ true
whole_of_wanted r n wanted =
    (and_parts _ _ (and_parts _ _ (and_parts _ _ wanted).0).0).0

-- so what is handed out with a claim is honest
pub honest_at_claim : {S : Type 0} (o : Operations S) (r : Record) (n : Node) (v : ℕ) (c : Contents S) → replayed r.edits ≡ Some (list_of r.edits) → wants_job r n ≡ true → v ≡ touched_by r.edits n → Stands o r n c → IsHonest o r n v c
honest_at_claim o r n v c legal wanted at stands =
    honest_of_standing o r n v c legal (whole_of_wanted r n wanted) at stands

-- one more edit keeps honesty
pub honest_after_edit : {S : Type 0} (o : Operations S) (r : Record) (n : Node) (v : ℕ) (c : Contents S) (e : Edit) → IsHonest o r n v c → IsHonest o (record r { edits = r.edits ++ e ∷ [] }) n v c
honest_after_edit o r n v c e honest =
    let past = honest.past in
    let same : take v (r.edits ++ e ∷ []) ≡ take v r.edits = take-append-le v r.edits (e ∷ []) honest.past in
    record {
      node = honest.node;
      past = omega (arith, length_push r.edits e);
      whole = rw same honest.whole;
      touched = rw same honest.touched;
      contents_then = rw same honest.contents_then;
      children = λ above k within. elim (honest.children above k within) [
        | inl kept ↦ inl (rw same kept)
        | inr later ↦ inr (omega (arith, touched_by_grows r.edits e (child n k)))
      ];
    }

-- contents that are honest for a record are so for one of the same edits, if what it keeps has the children's part
with_children : {S : Type 0} (o : Operations S) (r next : Record) (n : Node) (v : ℕ) (c : Contents S) → next.edits ≡ r.edits → IsHonest o r n v c → (1 < n.level → (k : ℕ) → k < 8 → (is_version (touched_by (take v r.edits) (child n k)) (next.kept (child n k)) ≡ true) ⊎ (v < touched_by r.edits (child n k))) → IsHonest o next n v c
with_children o r next n v c edits honest children =
    record {
      node = honest.node;
      past = rw edits honest.past;
      whole = rw edits honest.whole;
      touched = rw edits honest.touched;
      contents_then = rw edits honest.contents_then;
      children = rw edits children;
    }

-- honesty depends only on the edits and on what is kept
pub honest_same : {S : Type 0} (o : Operations S) (r next : Record) (n : Node) (v : ℕ) (c : Contents S) → next.edits ≡ r.edits → ((k : Node) → next.kept k ≡ r.kept k) → IsHonest o r n v c → IsHonest o next n v c
honest_same o r next n v c edits kept honest =
    with_children o r next n v c edits honest (λ above k within. rw kept (honest.children above k within))

-- the number at which a whole node was touched last is the one at which it was after the first v edits, or is above v
kept_now : (es : List Edit) (m : Node) (v : ℕ) → replayed es ≡ Some (list_of es) → is_whole es m ≡ true → (is_version (touched_by (take v es) m) (Some (touched_by es m)) ≡ true) ⊎ (v < touched_by es m)
kept_now es m v legal whole =
    elim (cases_lt v (touched_by es m)) [
      | inl later ↦ inr later
      | inr early ↦ inl (eq-eqb _ _ (untouched_since es v m legal whole early).2)
    ]

-- an install keeps honesty: it replaces what was kept for a node by the node's touched number of now
pub honest_after_install : {S : Type 0} (o : Operations S) (r next : Record) (m n : Node) (v : ℕ) (c : Contents S) → replayed r.edits ≡ Some (list_of r.edits) → next.edits ≡ r.edits → is_whole r.edits m ≡ true → ((k : Node) → next.kept k ≡ (if same_node k m then Some (touched_by r.edits m) else r.kept k)) → IsHonest o r n v c → IsHonest o next n v c
honest_after_install o r next m n v c legal edits whole kept honest =
    with_children o r next n v c edits honest (λ above k within. elim (cases_Bool (same_node (child n k) m)) [
      | inl same ↦
          let one = same_node-eq (child n k) m same in
          let now : next.kept (child n k) ≡ Some (touched_by r.edits m) = kept (child n k) ∙ cond-true _ _ _ same in
          rw (now, one) (kept_now r.edits m v legal whole)
      | inr other ↦
          let now : next.kept (child n k) ≡ r.kept (child n k) = kept (child n k) ∙ cond-false _ _ _ other in
          rw now (honest.children above k within)
    ])

-- contents are current as long as the edits and what is kept stay
pub stands_of_same : {S : Type 0} (o : Operations S) (r next : Record) (n : Node) (c : Contents S) → next.edits ≡ r.edits → ((k : Node) → next.kept k ≡ r.kept k) → Stands o r n c → Stands o next n c
stands_of_same o r next n (Elements xs) edits kept stands = rw edits stands
stands_of_same o r next n (Children summaries) edits kept stands = (
  stands.0,
  children_fresh_from next n (λ k within. rw (edits, kept (child n k)) (each_child_fresh r n stands.1 k within)),
  rw edits stands.2,
)

-- a whole child that no edit after the first v touched is fresh if honesty speaks of what is kept for it
fresh_since : (r : Record) (n : Node) (v k : ℕ) → replayed r.edits ≡ Some (list_of r.edits) → is_whole r.edits (child n k) ≡ true → touched_by r.edits (child n k) ≤ v → (is_version (touched_by (take v r.edits) (child n k)) (r.kept (child n k)) ≡ true) ⊎ (v < touched_by r.edits (child n k)) → is_fresh r (child n k) ≡ true
fresh_since r n v k legal whole early (inl kept) =
    let same = untouched_since r.edits v (child n k) legal whole early in
    and_from _ _ whole (ap (λ edit. is_version edit (r.kept (child n k))) same.2 ∙ kept)
fresh_since r n v k legal whole early (inr later) = absurd (omega arith)

-- contents that were taken honestly are current if the node is whole and no later edit touched it
pub vouched_of_honest : {S : Type 0} (o : Operations S) (r : Record) (n : Node) (v : ℕ) (c : Contents S) → replayed r.edits ≡ Some (list_of r.edits) → IsHonest o r n v c → is_whole r.edits n ≡ true → touched_by r.edits n ≡ v → Stands o r n c
vouched_of_honest o r n v (Elements xs) legal honest whole touched =
    let same = untouched_since r.edits v n legal whole (omega arith) in
    (honest.contents_then.0, honest.contents_then.1 ∙ sym same.1)
vouched_of_honest o r n v (Children summaries) legal honest whole touched =
    let above : 1 < n.level = honest.contents_then.0 in
    let child_is = λ (k : ℕ) (within : k < 8). child_whole r.edits n k above within whole in
    let early : (k : ℕ) → k < 8 → touched_by r.edits (child n k) ≤ v = λ k within. omega (arith, child_touched r.edits n k above within) in (
      above,
      children_fresh_from r n (λ k within. fresh_since r n v k legal (child_is k within) (early k within) (honest.children above k within)),
      λ k within. honest.contents_then.1 k within ∙ ap (λ xs. Some (fold_of o xs)) (sym (untouched_since r.edits v (child n k) legal (child_is k within) (early k within)).1),
    )

-- parts of a list that follow one another are the part of it that they cover
parts_in_turn : {A : Type 0} (xs : List A) (w base from count : ℕ) → take (count * w) (drop ((base + from) * w) xs) ≡ flat_map (λ k. take w (drop ((base + k) * w) xs)) (range_with_len from count)
parts_in_turn xs w base from zero =
    let none : zero * w ≡ zero = omega arith in
    ap (λ m. take m (drop ((base + from) * w) xs)) none
parts_in_turn xs w base from (suc count) =
    let sizes : suc count * w ≡ w + count * w = omega arith in
    let next : (base + from) * w + w ≡ (base + (from + 1)) * w = omega arith in
    ap (λ m. take m (drop ((base + from) * w) xs)) sizes
    ∙ take-add w (count * w) (drop ((base + from) * w) xs)
    ∙ ap (λ rest. take w (drop ((base + from) * w) xs) ++ take (count * w) rest) (drop-drop w ((base + from) * w) xs ∙ ap (λ m. drop m xs) next)
    ∙ ap (λ rest. take w (drop ((base + from) * w) xs) ++ rest) (parts_in_turn xs w base (from + 1) count)

-- the elements of a node above level 1 are those of its eight children, joined end to end
pub cells_of_children : (es : List Edit) (n : Node) → 1 < n.level → elements_under es n ≡ flat_map (λ k. elements_under es (child n k)) (range_with_len 0 8)
cells_of_children es n above =
    let xs = list_of es in
    let w = 8 ^ (n.level - 1) in
    let first : n.number * (8 * w) ≡ (8 * n.number + 0) * w = omega arith in
    ap (λ size. take size (drop (n.number * size) xs)) (child_width n above)
    ∙ ap (λ from. take (8 * w) (drop from xs)) first
    ∙ parts_in_turn xs w (8 * n.number) 0 8

-- what holds of each element of two lists joined end to end holds of each element of both
pub parts_of_all : {A : Type 0} (P : A → Type 0) (xs ys : List A) → All P (xs ++ ys) → All P xs × All P ys
parts_of_all P xs ys all =
    (All-same P xs _ (sym (take-append_seam xs ys)) (All-take P (length xs) (xs ++ ys) all), All-same P ys _ (sym (drop-append_seam xs ys)) (All-drop P (length xs) (xs ++ ys) all))

module _ {S : Type 0} (o : Operations S) (within : S → ℕ → Type 0) (laws : BodyLaws o within) where
  -- to join the folds of lists to a summary in turn is to go on from it over all their elements
  joins_in_turn : (lists : ℕ → List ℤ) (ks : List ℕ) (s : S) (count : ℕ) → within s count → All IsElement (flat_map lists ks) → count + length (flat_map lists ks) ≤ 2 ^ 20 → fold o.join s (map (λ k. fold_of o (lists k)) ks) ≡ fold (λ t x. o.join t (o.lift x)) s (flat_map lists ks)
  joins_in_turn lists [] s count known elements few = refl
  joins_in_turn lists (k ∷ ks) s count known elements few =
      let xs = lists k in
      let rest = flat_map lists ks in
      let parts = parts_of_all IsElement xs rest elements in
      let few_parts : count + (length xs + length rest) ≤ 2 ^ 20 = omega (arith, length-append xs rest) in
      let folded = fold_of-within o within laws xs record { few = omega arith; elements = parts.0 } in
      let longer = laws.join_within s (fold_of o xs) count (length xs) known folded (omega arith) in
      joins_in_turn lists ks (o.join s (fold_of o xs)) (count + length xs) longer parts.1 (omega arith)
      ∙ ap (λ t. fold (λ t x. o.join t (o.lift x)) t rest) (sym (going_on-is_join o within laws s count xs known parts.0 (omega arith)))
      ∙ sym (fold-append (λ t x. o.join t (o.lift x)) s xs rest)

  -- the elements of any node can be folded if those of the whole list can
  pub cells_can_fold : (es : List Edit) (n : Node) → CanFold (list_of es) → CanFold (elements_under es n)
  cells_can_fold es n can = part_can_fold (8 ^ n.level) (n.number * 8 ^ n.level) (list_of es) can

  -- summaries that are, one by one, the folds of the children's elements are the list of those folds
  pub summaries_in_order : (es : List Edit) (n : Node) (summaries : Eight S) → ((k : ℕ) → k < 8 → slice_get (in_order summaries) k ≡ Some (fold_of o (elements_under es (child n k)))) → in_order summaries ≡ map (λ k. fold_of o (elements_under es (child n k))) (range_with_len 0 8)
  summaries_in_order es n summaries each =
      fill_by_all (λ k. fold_of o (elements_under es (child n k))) (in_order summaries) 8 o.identity refl (λ k inside. get_or_from_slice_get (in_order summaries) k (fold_of o (elements_under es (child n k))) o.identity (each k inside))

  -- the fold of current contents of a node is the fold of its elements
  pub fold_of_standing : (r : Record) (n : Node) (c : Contents S) → CanFold (list_of r.edits) → Stands o r n c → fold_of_contents o c ≡ fold_of o (elements_under r.edits n)
  fold_of_standing r n (Elements xs) can stands = ap (fold_of o) stands.1
  fold_of_standing r n (Children summaries) can stands =
      let lists = λ (k : ℕ). elements_under r.edits (child n k) in
      let all = cells_of_children r.edits n stands.0 in
      let folded : CanFold (flat_map lists (range_with_len 0 8)) = rw (← all) (cells_can_fold r.edits n can) in
      ap (fold o.join o.identity) (summaries_in_order r.edits n summaries stands.2)
      ∙ joins_in_turn lists (range_with_len 0 8) o.identity 0 laws.identity_within folded.elements (omega (arith, folded.few))
      ∙ ap (fold_of o) (sym all)

  -- current contents of a whole node can be folded
  pub can_fold_standing : (r : Record) (n : Node) (c : Contents S) → CanFold (list_of r.edits) → is_whole r.edits n ≡ true → Stands o r n c → CanFoldContents within c
  can_fold_standing r n (Elements xs) can whole stands =
      let size : 8 ^ n.level ≡ 8 = ap (λ l. 8 ^ l) stands.0 in (
        ap length stands.1 ∙ elements_under-length r.edits n whole ∙ size,
        All-same IsElement xs _ stands.1 (cells_can_fold r.edits n can).elements,
      )
  can_fold_standing r n (Children summaries) can whole stands =
      let w = 8 ^ (n.level - 1) in
      let each : (k : ℕ) → k < 8 → within (fold_of o (elements_under r.edits (child n k))) w = λ k inside.
      subst (within (fold_of o (elements_under r.edits (child n k)))) (elements_under-length r.edits (child n k) (child_whole r.edits n k stands.0 inside whole)) (fold_of-within o within laws (elements_under r.edits (child n k)) (cells_can_fold r.edits (child n k) can)) in (
        w,
        omega (arith, child_width n stands.0, elements_under-length r.edits n whole, (cells_can_fold r.edits n can).few),
        λ k d inside. subst (λ s. within s w) (sym (get_or_from_slice_get (in_order summaries) k (fold_of o (elements_under r.edits (child n k))) d (stands.2 k inside))) (each k inside),
      )
