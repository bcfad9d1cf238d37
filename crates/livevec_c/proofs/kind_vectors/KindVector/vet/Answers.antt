-- Proof of `KindVector::vet`: whether an outcome may be accepted: yes for each outcome of a job that this vector handed out.
use Rattle.livevec_c.proofs.kind_vectors.KindVector.vet.Goals as goal

pub returns : goal.returns
returns c = rw (← c.self.view_is) c.vet.ensures
