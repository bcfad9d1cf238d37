-- Proof of `write_at_object`: writes at an object.
use Rattle.std.proofs.Common.{refl}
use Rattle.livevec_c.proofs.writes.write_at_object.Goals as goal

pub returns-in-Vector : goal.returns-in-Vector
returns-in-Vector c = rw c.in-Vector.is (c.write_at_vector.new.vector, refl, c.write_at_vector.ensures)
