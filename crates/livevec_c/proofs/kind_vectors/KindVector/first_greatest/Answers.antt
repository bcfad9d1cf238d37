-- Proof of `KindVector::first_greatest`: the first of the greatest elements of a range, with its index; none of an empty range.
use Rattle.lv_tree.proofs.KeptLaws.{AreReady-by}
use Rattle.livevec_c.proofs.kind_vectors.KindVector.first_greatest.Goals as goal

pub first_greatest-requires : goal.first_greatest-requires
first_greatest-requires c = rw c.view.ensures.cells (record { ready = AreReady-by _ c.self.inside.live.history.journal c.self.inside.kinds c.self.invariant.kept })
