-- Proof of `KindVector::claim`: a job for the least node that needs one, or none.
use Rattle.livevec_c.proofs.kind_vectors.KindVector.claim.Goals as goal

pub returns-clause-honest : goal.returns-clause-honest
returns-clause-honest c = rw (← c.self.view_is) c.claim.ensures.honest
