-- Proof of `edit_object`: an edit of an object.
use Rattle.std.proofs.Common.{refl}
use Rattle.livevec_c.proofs.series.edit_object.Goals as goal

pub returns-in-Series : goal.returns-in-Series
returns-in-Series c = rw c.in-Series.is (c.apply.new.self, refl, (c.apply.result, c.edit_answer.ensures, c.apply.ensures))
