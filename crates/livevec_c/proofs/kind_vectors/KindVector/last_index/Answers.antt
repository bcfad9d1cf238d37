-- Proof of `KindVector::last_index`: the last index of a range whose element is within a bound, or none.
use Rattle.lv_tree.proofs.KeptLaws.{AreReady-by}
use Rattle.livevec_c.proofs.kind_vectors.KindVector.last_index.Goals as goal

pub last_index-requires : goal.last_index-requires
last_index-requires c = rw c.view.ensures.cells (record { ready = AreReady-by _ c.self.inside.live.history.journal c.self.inside.kinds c.self.invariant.kept })
