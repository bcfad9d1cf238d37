-- Proof of `KindVector::value`: the summary by a kind of the elements from index `lo` up to `hi`, with the number of the last edit.
use Rattle.lv_tree.proofs.KeptLaws.{AreReady-by}
use Rattle.livevec_c.proofs.kind_vectors.KindVector.value.Goals as goal

pub ask-requires-clause-kept : goal.ask-requires-clause-kept
ask-requires-clause-kept c = rw c.view.ensures.cells (AreReady-by _ c.self.inside.live.history.journal c.self.inside.kinds c.self.invariant.kept).kept
