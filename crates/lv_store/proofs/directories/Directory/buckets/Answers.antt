-- Proof of `Directory::buckets`: how many buckets are open.
use Rattle.lv_store.proofs.BucketLaws.{length-cells}
use Rattle.lv_store.proofs.directories.Directory.buckets.Goals as goal

pub returns-clause-cells : goal.returns-clause-cells
returns-clause-cells g c = rw (← c.self.view_is) (length-cells (λ b. b.items) c.self.inside.buckets.items c.self.invariant)
