-- Proof of `every_run_is_true_of_its_edits`: every run, also one in which memory runs out, leaves the edits that there were and then those that
-- it accepted, in order.
use Rattle.lv_live.proofs.EveryRunLaws.{run_edits, run_true}
use Rattle.lv_live.proofs.theorems.every_run_is_true_of_its_edits.Goals as goal

pub returns-clause-edits : goal.returns-clause-edits
returns-clause-edits g c = λ body limits r next events replies run. run_edits (g.B.Body.operations body) limits r next events replies run

pub returns-clause-answers : goal.returns-clause-answers
returns-clause-answers g c = λ body limits r next events replies run. run_true (g.B.Body.operations body) limits r next events replies run
