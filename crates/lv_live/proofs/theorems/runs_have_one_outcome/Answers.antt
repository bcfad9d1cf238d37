-- Proof of `runs_have_one_outcome`: if no reply is `NoMemory`, a run has one outcome.
use Rattle.std.proofs.Common.{sym, subst}
use Rattle.lv_live.specs.Step.{Run}
use Rattle.lv_live.proofs.OneOutcomeLaws.{one_outcome, one_record, same_of}
use Rattle.lv_live.proofs.theorems.runs_have_one_outcome.Goals as goal

pub returns-clause-replies : goal.returns-clause-replies
returns-clause-replies g c = λ body limits r next q after events replies answers same run room other had.
    (one_outcome (g.B.Body.operations body) limits r next after events replies answers run room
    (subst (λ q. Run (g.B.Body.operations body) limits q events answers after) (sym (one_record r q same)) other) had).0

pub returns-clause-record : goal.returns-clause-record
returns-clause-record g c = λ body limits r next q after events replies answers same run room other had.
    let one = one_outcome (g.B.Body.operations body) limits r next after events replies answers run room
    (subst (λ q. Run (g.B.Body.operations body) limits q events answers after) (sym (one_record r q same)) other) had in
    same_of next after one.1
