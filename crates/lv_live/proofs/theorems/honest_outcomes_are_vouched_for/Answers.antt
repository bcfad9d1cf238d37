-- Proof of `honest_outcomes_are_vouched_for`: what is honest is vouched for, if the body is the vector's.
use Rattle.lv_edits.proofs.HistoryLaws.{list_of_legal}
use Rattle.lv_refresh.proofs.HonestyLaws.{vouched_of_honest}
use Rattle.lv_live.proofs.theorems.honest_outcomes_are_vouched_for.Goals as goal

pub returns : goal.returns
returns g c = λ body other r n v contents same legal honest whole touched.
    (same, vouched_of_honest (g.B.Body.operations body) r n v contents (list_of_legal r.edits legal) honest whole touched)
