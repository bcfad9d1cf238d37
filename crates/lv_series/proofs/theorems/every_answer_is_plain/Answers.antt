-- Proof of `every_answer_is_plain`.
use Rattle.lv_series.proofs.PlainLaws.{run_is_plain}
use Rattle.lv_series.proofs.theorems.every_answer_is_plain.Goals as goal

pub returns-clause-plain : goal.returns-clause-plain
returns-clause-plain g c by = run_is_plain (g.B.Body.operations by)
