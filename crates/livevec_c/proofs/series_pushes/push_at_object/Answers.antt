-- Proof of `push_at_object`: pushes at an object.
use Rattle.std.proofs.Common.{refl}
use Rattle.livevec_c.proofs.series_pushes.push_at_object.Goals as goal

pub returns-in-Series : goal.returns-in-Series
returns-in-Series c = rw c.in-Series.is (c.push_all-answer.new.self, refl, (c.push_all-answer.result, c.pushes_answer.ensures, c.push_all-answer.ensures))
