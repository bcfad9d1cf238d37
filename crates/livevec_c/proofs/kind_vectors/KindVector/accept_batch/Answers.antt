-- Proof of `KindVector::accept_batch`: takes in the outcomes, in order.
use Rattle.livevec_c.proofs.kind_vectors.KindVector.accept_batch.Goals as goal

pub returns-clause-delivers : goal.returns-clause-delivers
returns-clause-delivers c = rw (← c.self.view_is) c.accept_batch.ensures.delivers
