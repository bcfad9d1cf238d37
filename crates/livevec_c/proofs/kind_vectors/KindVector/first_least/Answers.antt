-- Proof of `KindVector::first_least`: the first of the least elements of a range, with its index; none of an empty range.
use Rattle.lv_tree.proofs.KeptLaws.{AreReady-by}
use Rattle.livevec_c.proofs.kind_vectors.KindVector.first_least.Goals as goal

pub first_least-requires : goal.first_least-requires
first_least-requires c = rw c.view.ensures.cells (record { ready = AreReady-by _ c.self.inside.live.history.journal c.self.inside.kinds c.self.invariant.kept })
