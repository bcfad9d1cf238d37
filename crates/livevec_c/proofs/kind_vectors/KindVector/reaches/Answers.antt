-- Proof of `KindVector::reaches`: the least end up to which the elements from index `lo` on add up to `sum`, or none.
use Rattle.lv_tree.proofs.KeptLaws.{AreReady-by}
use Rattle.livevec_c.proofs.kind_vectors.KindVector.reaches.Goals as goal

pub reaches-requires : goal.reaches-requires
reaches-requires c = rw c.view.ensures.cells (record { ready = AreReady-by _ c.self.inside.live.history.journal c.self.inside.kinds c.self.invariant.kept })
