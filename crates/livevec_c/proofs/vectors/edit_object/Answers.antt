-- Proof of `edit_object`: an edit of an object.
use Rattle.std.proofs.Common.{refl}
use Rattle.livevec_c.proofs.vectors.edit_object.Goals as goal

pub returns-in-Vector : goal.returns-in-Vector
returns-in-Vector c =
    rw c.in-Vector.is (c.apply.new.self, refl, (c.apply.ensures.limits, c.apply.ensures.refresh, (c.apply.result, c.edit_answer.ensures, c.apply.ensures.answer)))
