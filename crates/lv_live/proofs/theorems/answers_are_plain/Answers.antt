-- Proof of `answers_are_plain`: in every run in which no reply is `NoMemory`, edits and queries are answered as the edits accepted before them
-- decide.
use Rattle.lv_live.proofs.RunLaws.{run_is_plain}
use Rattle.lv_live.proofs.theorems.answers_are_plain.Goals as goal

pub returns : goal.returns
returns g c = λ body limits r next events replies run room. run_is_plain (g.B.Body.operations body) limits r next events replies run room
