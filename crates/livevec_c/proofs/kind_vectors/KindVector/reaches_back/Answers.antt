-- Proof of `KindVector::reaches_back`: the greatest start from which on the elements up to index `hi` add up to `sum`, or none.
use Rattle.lv_tree.proofs.KeptLaws.{AreReady-by}
use Rattle.livevec_c.proofs.kind_vectors.KindVector.reaches_back.Goals as goal

pub reaches_back-requires : goal.reaches_back-requires
reaches_back-requires c = rw c.view.ensures.cells (record { ready = AreReady-by _ c.self.inside.live.history.journal c.self.inside.kinds c.self.invariant.kept })
