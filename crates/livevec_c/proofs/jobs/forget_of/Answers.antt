-- Proof of `forget_of`: forgets the claims of an object.
use Rattle.std.proofs.Common.{refl}
use Rattle.livevec_c.proofs.jobs.forget_of.Goals as goal

pub returns-in-Vector : goal.returns-in-Vector
returns-in-Vector c = rw c.in-Vector.is (c.forget_claims.new.self, refl, refl, c.forget_claims.ensures.forgotten)
