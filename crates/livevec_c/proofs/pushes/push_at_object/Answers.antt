-- Proof of `push_at_object`: pushes at an object.
use Rattle.std.proofs.Common.{refl}
use Rattle.livevec_c.proofs.pushes.push_at_object.Goals as goal

pub returns-in-Vector : goal.returns-in-Vector
returns-in-Vector c =
    rw c.in-Vector.is (c.push_all-answer.new.self, refl, (c.push_all-answer.ensures.limits, c.push_all-answer.ensures.refresh, (c.push_all-answer.result, c.pushes_answer.ensures, c.push_all-answer.ensures.answer)))
