-- The result of a question by one kind about a vector, and what it leaves of the data that is stored by kind.
use Rattle.std.specs.Prelude.{◌≡◌, ◌⊎◌, ℕ, Some, List, Result, IfErr, IfOk}
use Rattle.lv_geometry.specs.declared.refusals.Refusal.{Refusal}
use Rattle.lv_bodies.specs.declared.kinds.Kind.{Kind}
use Rattle.lv_bodies.specs.Plain.{program_table}
use Rattle.lv_edits.specs.declared.edit.Edit.{Edit}
use Rattle.lv_edits.specs.Ranges.{range_refusal}
use Rattle.lv_tree.specs.Kinds.{AreReady, IsCaughtUp, IsNear, KindsState, LeavesOthers}
use Rattle.lv_standing.specs.declared.notes.Answered.{Answered}
use Rattle.lv_standing.specs.Queries.{IsValue}

-- the result is the value of a kind over a range, or why the range is rejected; what is stored by kind stays right, and no other kind
-- follows more edits; on success this kind has followed all edits, unless the range is answered without its tree
pub record AnswersValue (edits : List Edit) (kind : Kind) (lo hi : ℕ) (old new : KindsState) (result : Result Answered Refusal) : Type 0 where
  pub ok : IfOk result (λ answered. IsValue edits kind lo hi answered)
  pub err : IfErr result (λ refusal. range_refusal edits lo hi ≡ Some refusal)
  pub kept : AreReady program_table edits new
  pub others : LeavesOthers kind old new
  pub caught_up : IfOk result (λ _. IsNear kind lo hi old ⊎ IsCaughtUp edits kind hi new)
