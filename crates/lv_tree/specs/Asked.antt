-- A query by one kind.
use Rattle.std.specs.Prelude.{◌≡◌, ℕ, None, List, length}
use Rattle.lv_bodies.specs.declared.kinds.Kind.{Kind}
use Rattle.lv_edits.specs.declared.edit.Edit.{Edit}
use Rattle.lv_edits.specs.Ranges.{range_refusal, slice_of}
use Rattle.lv_tree.specs.KindSummaries.{summary_by}
use Rattle.lv_tree.specs.declared.kinds.KindAnswer.{KindAnswer}

-- the answer by a kind: nothing refuses the range, and it is the summary of its elements at the last edit
pub record IsKindAnswer (table : List (List ℕ)) (edits : List Edit) (kind : Kind) (lo hi : ℕ) (answer : KindAnswer) : Type 0 where
  pub granted : range_refusal edits lo hi ≡ None
  pub edit : answer.edit ≡ length edits
  pub summary : answer.summary ≡ summary_by table kind (slice_of edits lo hi)
