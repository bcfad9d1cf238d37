-- When contents were taken from this vector, and when they are its current ones.
use Rattle.std.specs.Prelude.{◌≡◌, ℕ, ◌<◌, ◌≤◌, true, Some, ◌⊎◌, List, length, take, slice_get}
use Rattle.lv_geometry.specs.declared.nodes.Node.{Node}
use Rattle.lv_geometry.specs.Nodes.{child, is_node}
use Rattle.lv_bodies.specs.Body.{Operations, fold_of}
use Rattle.lv_edits.specs.declared.edit.Edit.{Edit}
use Rattle.lv_edits.specs.Touch.{elements_under, is_whole, touched_by}
use Rattle.lv_refresh.specs.declared.contents.Contents.{Contents}
use Rattle.lv_refresh.specs.declared.contents.Contents.TheVariants.{Elements, Children}
use Rattle.lv_refresh.specs.Claim.{children_fresh}
use Rattle.lv_refresh.specs.Contents.{in_order}
use Rattle.lv_refresh.specs.Record.{Record, is_version}

-- contents are those of a node after some edits: at level 1 its elements, above the folds of its eight children
abbrev pub AreContents : {S : Type 0} → Operations S → List Edit → Node → Contents S → Type 0
AreContents o edits n (Elements xs) = (n.level ≡ 1) × (xs ≡ elements_under edits n)
AreContents o edits n (Children summaries) = (1 < n.level) × ((k : ℕ) → k < 8 → slice_get (in_order summaries) k ≡ Some (fold_of o (elements_under edits (child n k))))

-- contents were taken honestly at version v: after the first v edits the node was whole and touched at v, and the contents
-- were its own; and above level 1 each child is still kept at its touched number of then, or was touched later than v
pub record IsHonest {S : Type 0} (o : Operations S) (r : Record) (n : Node) (v : ℕ) (contents : Contents S) : Type 0 where
  pub node : is_node n ≡ true
  pub past : v ≤ length r.edits
  pub whole : is_whole (take v r.edits) n ≡ true
  pub touched : touched_by (take v r.edits) n ≡ v
  pub contents_then : AreContents o (take v r.edits) n contents
  pub children : 1 < n.level → (k : ℕ) → k < 8 →
      (is_version (touched_by (take v r.edits) (child n k)) (r.kept (child n k)) ≡ true) ⊎ (v < touched_by r.edits (child n k))

-- contents are the current ones: at level 1 they are the node's elements; above, the children are all fresh, and the summaries carried are their
-- folds
abbrev pub Stands : {S : Type 0} → Operations S → Record → Node → Contents S → Type 0
Stands o r n (Elements xs) = (n.level ≡ 1) × (xs ≡ elements_under r.edits n)
Stands o r n (Children summaries) =
    (1 < n.level) × (children_fresh r n ≡ true) × ((k : ℕ) → k < 8 → slice_get (in_order summaries) k ≡ Some (fold_of o (elements_under r.edits (child n k))))

-- an outcome is vouched for if its node isn't whole, or was touched by another edit last, or what it carries is current: its body is the
-- vector's, and its contents are the node's current ones
abbrev pub Vouched : {S : Type 0} → Operations S → Record → Type 0 → Node → ℕ → Contents S → Type 0
Vouched o r same_body n v contents = is_whole r.edits n ≡ true → touched_by r.edits n ≡ v → same_body × Stands o r n contents
