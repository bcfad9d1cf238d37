-- Proof of `KindVector::best_run`: the best run of a range: of several the one that ends first, and of those the shortest.
use Rattle.lv_tree.proofs.KeptLaws.{AreReady-by}
use Rattle.livevec_c.proofs.kind_vectors.KindVector.best_run.Goals as goal

pub best_run-requires : goal.best_run-requires
best_run-requires c = rw c.view.ensures.cells (record { ready = AreReady-by _ c.self.inside.live.history.journal c.self.inside.kinds c.self.invariant.kept })
