-- The summaries of a node's children, joined one after another without being copied.
use Rattle.std.proofs.Common.{◌≡◌, ℕ, ℤ, ◌+◌, ◌-◌, ◌*◌, ◌^◌, ◌<◌, true, false, ◌&&◌, ◌||◌, not, Some, List, [], ◌++◌, length, take, drop, nat_eq, subst, sym, ap, ◌∙◌, arith}
use Rattle.std.proofs.Math.Seq.{take-add}
use Rattle.std.proofs.lemmas.Bool.{and_from, and_parts, cond-false, ne_eqb, not-true, or_left, or_right}
use Rattle.std.proofs.lemmas.List.{drop-drop, length-append}
use Rattle.lv_geometry.specs.declared.nodes.Node.{Node}
use Rattle.lv_geometry.specs.Elements.{IsElement}
use Rattle.lv_geometry.specs.Nodes.{child, parent}
use Rattle.lv_bodies.specs.Body.{BodyLaws, CanFold, CanJoin, Operations, fold_of}
use Rattle.lv_bodies.specs.FoldLaws.{fold_of-append, fold_of-within}
use Rattle.lv_edits.specs.declared.edit.Edit.{Edit}
use Rattle.lv_edits.specs.History.{list_of}
use Rattle.lv_edits.specs.Touch.{elements_under}
use Rattle.lv_summary.specs.Agrees.{Agrees}
use Rattle.lv_summary.specs.declared.accepted.Accepted.TheVariants.{Installed}
use Rattle.lv_summary.specs.Changes.{Keeps}
use Rattle.lv_summary.specs.Table.{Table, delivery_in, entry_in, fresh_in, touched_in, whole_in}
use Rattle.lv_summary.proofs.FoldableLaws.{part_can_fold}
use Rattle.lv_summary.proofs.TableLaws.{delivery_in-current, same_node-self}
use Rattle.lv_refresh.specs.ClaimTable.{AreHints, ClaimTable, claimed_in, record_of}
use Rattle.lv_refresh.specs.Inner.{HintsNode, IsReady, ServesNode, children_fresh_in, wants_in}
use Rattle.lv_refresh.specs.Record.{is_version}
use Rattle.lv_refresh.specs.Refreshed.{RefreshesNext}
use Rattle.lv_refresh.proofs.HonestyLaws.{child_width, each_child_fresh, parts_of_all}
use Rattle.lv_refresh.proofs.NextLaws.{IsNextJob-served, wants_agrees}
use Rattle.lv_refresh.proofs.PickLaws.{whole_of_wants}
use Rattle.lv_refresh.proofs.RecordLaws.{children_agree, fresh_agrees}

-- the node that was picked is ready
pub ready_served : {S : Type 0} (t : Table S) (old new : ClaimTable) (job : Node × ℕ) → ServesNode t old new job → IsReady t job.0
ready_served t old new job served above =
    let n = job.0 in
    let either = (and_parts (whole_in t n && not (fresh_in t n) && not (is_version (touched_in t n) (claimed_in old n))) (nat_eq n.level 1 || children_fresh_in t n) served.wants).1 in
    let high : nat_eq n.level 1 ≡ false = ne_eqb n.level 1 (λ low. omega (arith, low, above)) in
    sym (ap (λ low. low || children_fresh_in t n) high) ∙ either

-- and whole
pub whole_served : {S : Type 0} (t : Table S) (old new : ClaimTable) (job : Node × ℕ) → ServesNode t old new job → whole_in t job.0 ≡ true
whole_served t old new job served = whole_of_wants t (claimed_in old job.0) job.0 served.wants

-- and not fresh, so that a summary of the version that it was touched by last is due
pub due_served : {S : Type 0} (t : Table S) (old new : ClaimTable) (n : Node) (v : ℕ) → ServesNode t old new (n, v) → delivery_in t n v ≡ Installed
due_served t old new n v served =
    let first = and_parts (whole_in t n && not (fresh_in t n) && not (is_version (touched_in t n) (claimed_in old n))) (nat_eq n.level 1 || children_fresh_in t n) served.wants in
    let second = and_parts (whole_in t n && not (fresh_in t n)) (not (is_version (touched_in t n) (claimed_in old n))) first.0 in
    let third = and_parts (whole_in t n) (not (fresh_in t n)) second.0 in
    delivery_in-current t n v third.0 (sym served.version) ∙ cond-false (fresh_in t n) _ _ (not-true (fresh_in t n) third.1)

module _ {S : Type 0} (o : Operations S) (edits : List Edit) (t : Table S) (agrees : Agrees o edits t) (old mid new : ClaimTable) (n : Node) (v : ℕ) (served : ServesNode t old mid (n, v)) (hinted : HintsNode mid new (parent n)) where
  -- once the parent of the node that was picked is hinted at too, each node that wants a job still is
  pub hints_refreshed : AreHints (record_of edits t new) new
  hints_refreshed m wants =
      hinted.hints m ∙ or_right _ _ (served.hints m (ap (λ claimed. wants_in t claimed m) (sym (hinted.claimed m)) ∙ sym (wants_agrees o edits t agrees new m) ∙ wants))

  -- and the node was refreshed, if the fold of its elements is kept
  pub refreshes : (u : Table S) → Keeps t u n v (fold_of o (elements_under edits n)) → RefreshesNext o edits t u old new
  refreshes u keeps =
      record {
        node = n;
        version = v;
        next = IsNextJob-served o edits t agrees old mid (Some (n, v)) served;
        keeps = keeps;
        claimed = λ m. hinted.claimed m ∙ served.claimed m;
        above = λ inside. hinted.hints (parent n) ∙ or_left _ _ (and_from _ _ inside (same_node-self (parent n)));
      }

-- the elements of the first k children of a node
abbrev pub front : List Edit → Node → ℕ → List ℤ
front edits n k = take (k * 8 ^ (n.level - 1)) (drop (n.number * 8 ^ n.level) (list_of edits))

-- those of one child more
front_more : (edits : List Edit) (n : Node) (k : ℕ) → 1 < n.level → front edits n (k + 1) ≡ front edits n k ++ elements_under edits (child n k)
front_more edits n k above =
    let xs = list_of edits in
    let w = 8 ^ (n.level - 1) in
    let first = n.number * 8 ^ n.level in
    let more : (k + 1) * w ≡ k * w + w = omega arith in
    let wide : n.number * 8 ^ n.level ≡ n.number * (8 * w) = ap (λ w. n.number * w) (child_width n above) in
    let place : first + k * w ≡ (8 * n.number + k) * w = omega (arith, wide) in
    ap (λ m. take m (drop first xs)) more
    ∙ take-add (k * w) w (drop first xs)
    ∙ ap (λ rest. front edits n k ++ take w rest) (drop-drop (k * w) first xs ∙ ap (λ m. drop m xs) place)

-- so far the summaries of the first k children were joined
abbrev pub Joins : {S : Type 0} → Operations S → List Edit → Node → ℕ → S → Type 0
Joins o edits n k s = s ≡ fold_of o (front edits n k)

-- none was joined
pub joins_none : {S : Type 0} (o : Operations S) (edits : List Edit) (n : Node) (s : S) → s ≡ o.identity → Joins o edits n 0 s
joins_none o edits n s is =
    let none : 0 * 8 ^ (n.level - 1) ≡ 0 = omega arith in
    is ∙ ap (λ m. fold_of o (take m (drop (n.number * 8 ^ n.level) (list_of edits)))) (sym none)

-- eight are all
pub joins_all : {S : Type 0} (o : Operations S) (edits : List Edit) (n : Node) (s : S) → 1 < n.level → Joins o edits n 8 s → s ≡ fold_of o (elements_under edits n)
joins_all o edits n s above joined =
    joined ∙ ap (λ m. fold_of o (take m (drop (n.number * 8 ^ n.level) (list_of edits)))) (sym (child_width n above))

module _ {S : Type 0} (o : Operations S) (edits : List Edit) (t : Table S) (agrees : Agrees o edits t) where
  -- each child of a node that is ready is fresh
  pub child_is_fresh : (n : Node) (k : ℕ) → 1 < n.level → IsReady t n → k < 8 → fresh_in t (child n k) ≡ true
  child_is_fresh n k above ready small =
      let c : ClaimTable = record { levels = [] } in
      fresh_agrees o edits t c agrees (child n k) ∙ each_child_fresh (record_of edits t c) n (sym (children_agree o edits t c agrees n) ∙ ready above) k small

  module _ (within : S → ℕ → Type 0) (laws : BodyLaws o within) (can : CanFold (list_of edits)) where
    -- the first children's elements can be folded
    front_can_fold : (n : Node) (k : ℕ) → CanFold (front edits n k)
    front_can_fold n k = part_can_fold (k * 8 ^ (n.level - 1)) (n.number * 8 ^ n.level) (list_of edits) can

    -- the next child's summary can be joined
    pub joins_can : (n : Node) (k : ℕ) (sum s : S) → 1 < n.level → Joins o edits n k sum → entry_in t (child n k) ≡ Some s → CanJoin within sum s
    joins_can n k sum s above joined at =
        let more = front_more edits n k above in
        let both : CanFold (front edits n k ++ elements_under edits (child n k)) = subst CanFold more (front_can_fold n (k + 1)) in
        let parts = parts_of_all IsElement (front edits n k) (elements_under edits (child n k)) both.elements in
        let size = length-append (front edits n k) (elements_under edits (child n k)) in
        let here : CanFold (elements_under edits (child n k)) = record { few = omega (arith, both.few, size); elements = parts.1 } in
        let is = agrees.folds (child n k) s at in
        record {
          left = length (front edits n k);
          right = length (elements_under edits (child n k));
          left_within = subst (λ s. within s (length (front edits n k))) (sym joined) (fold_of-within o within laws (front edits n k) (front_can_fold n k));
          right_within = subst (λ s. within s (length (elements_under edits (child n k)))) (sym is) (fold_of-within o within laws (elements_under edits (child n k)) here);
          few = omega (arith, both.few, size);
        }

    -- and then one more is
    pub joins_more : (n : Node) (k : ℕ) (sum s next : S) → 1 < n.level → Joins o edits n k sum → entry_in t (child n k) ≡ Some s → next ≡ o.join sum s → Joins o edits n (k + 1) next
    joins_more n k sum s next above joined at is =
        let more = front_more edits n k above in
        let both : CanFold (front edits n k ++ elements_under edits (child n k)) = subst CanFold more (front_can_fold n (k + 1)) in
        is
        ∙ ap (λ s. o.join sum s) (agrees.folds (child n k) s at)
        ∙ ap (λ sum. o.join sum (fold_of o (elements_under edits (child n k)))) joined
        ∙ sym (fold_of-append o within laws (front edits n k) (elements_under edits (child n k)) both)
        ∙ ap (fold_of o) (sym more)
