-- Proof of `honesty_lasts`: honesty lasts: contents that were taken honestly at a version stay so through every event, whatever is edited, claimed, delivered or forgotten.
use Rattle.lv_edits.proofs.HistoryLaws.{list_of_legal}
use Rattle.lv_live.proofs.HonestSteps.{honest_after_step}
use Rattle.lv_live.proofs.theorems.honesty_lasts.Goals as goal

pub returns : goal.returns
returns g c = λ body limits r next event answered n v contents legal step honest.
    honest_after_step (g.B.Body.operations body) n v contents limits r next event answered (list_of_legal r.edits legal) step honest
