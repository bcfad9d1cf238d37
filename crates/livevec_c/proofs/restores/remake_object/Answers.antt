-- Proof of `remake_object`: makes edits at an object, one after the other, if it is a vector.
use Rattle.std.proofs.Common.{refl}
use Rattle.livevec_c.proofs.restores.remake_object.Goals as goal

pub returns-in-Vector : goal.returns-in-Vector
returns-in-Vector c = rw c.in-Vector.is (c.remake_told.new.vector, refl, c.remake_told.ensures)
