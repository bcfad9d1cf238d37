-- Proof of `KindVector::first_index`: the first index of a range whose element is within a bound, or none.
use Rattle.lv_tree.proofs.KeptLaws.{AreReady-by}
use Rattle.livevec_c.proofs.kind_vectors.KindVector.first_index.Goals as goal

pub first_index-requires : goal.first_index-requires
first_index-requires c = rw c.view.ensures.cells (record { ready = AreReady-by _ c.self.inside.live.history.journal c.self.inside.kinds c.self.invariant.kept })
