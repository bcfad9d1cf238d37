-- Proof of `accept_of`: takes an object in at another.
use Rattle.std.proofs.Common.{refl}
use Rattle.livevec_c.proofs.subtrees.accept_of.Goals as goal

pub returns-in-Vector : goal.returns-in-Vector
returns-in-Vector c = rw c.in-Vector.is (c.accept_vector.new.vector, refl, c.accept_vector.ensures)
