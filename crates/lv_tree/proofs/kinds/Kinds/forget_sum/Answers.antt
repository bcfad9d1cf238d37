-- Proof of `Kinds::forget_sum`: each kind follows still, and every vector has the sum of no elements.
use Rattle.std.proofs.Common.{◌++◌}
use Rattle.lv_tree.proofs.KeptLaws.{kept_after}
use Rattle.lv_tree.proofs.kinds.Kinds.forget_sum.Goals as goal

pub returns-clause-kept : goal.returns-clause-kept
returns-clause-kept c table edits more kept =
    kept_after table edits more _ _ c.none-self-inside.result c.self.view_is (c.none-self-inside.ensures (edits ++ more)) kept
