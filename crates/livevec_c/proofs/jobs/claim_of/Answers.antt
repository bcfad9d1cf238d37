-- Proof of `claim_of`: a claim of an object, for an empty slot.
use Rattle.std.proofs.Common.{refl}
use Rattle.livevec_c.proofs.jobs.claim_of.Goals as goal

pub returns-in-Vector : goal.returns-in-Vector
returns-in-Vector c = rw c.in-Vector.is (c.claim_vector.new.vector, refl, c.claim_vector.ensures)
