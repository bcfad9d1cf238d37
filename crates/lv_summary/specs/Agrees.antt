-- A table of summaries that agrees with a journal of edits.
use Rattle.std.specs.Prelude.{◌≡◌, ℕ, ◌≤◌, true, Some, List, length}
use Rattle.lv_geometry.specs.declared.nodes.Node.{Node}
use Rattle.lv_geometry.specs.Nodes.{is_node}
use Rattle.lv_bodies.specs.Body.{Operations, fold_of}
use Rattle.lv_edits.specs.declared.edit.Edit.{Edit}
use Rattle.lv_edits.specs.History.{list_of}
use Rattle.lv_edits.specs.Touch.{elements_under, touched_by}
use Rattle.lv_summary.specs.Table.{Table, entry_in, kept_in, touched_in}

-- size and touched numbers are those of the journal, no version is of an edit to come, and each fresh node's summary is the fold
-- of its elements
pub record Agrees {S : Type 0} (o : Operations S) (edits : List Edit) (t : Table S) : Type 0 where
  pub size : t.size ≡ length (list_of edits)
  pub touched : (n : Node) → is_node n ≡ true → touched_in t n ≡ touched_by edits n
  pub versions : (n : Node) (version : ℕ) (s : S) → kept_in t n ≡ Some (version, s) → version ≤ length edits
  pub folds : (n : Node) (s : S) → entry_in t n ≡ Some s → s ≡ fold_of o (elements_under edits n)
