-- Proof of `jobs_stay_vouched_for`: a job stays good.
use Rattle.lv_edits.proofs.HistoryLaws.{list_of_legal}
use Rattle.lv_refresh.proofs.HonestyLaws.{vouched_of_honest}
use Rattle.lv_live.proofs.EveryRunLaws.{run_honest}
use Rattle.lv_live.proofs.theorems.jobs_stay_vouched_for.Goals as goal

pub returns : goal.returns
returns g c = λ body other limits r next events replies n v contents same legal run honest whole touched.
    let o = g.B.Body.operations body in
    let last = run_honest o limits n v contents r next events replies run (list_of_legal r.edits legal) honest in
    (same, vouched_of_honest o next n v contents last.0 last.1 whole touched)
