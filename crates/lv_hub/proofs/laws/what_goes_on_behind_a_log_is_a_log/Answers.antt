-- Proof of `what_goes_on_behind_a_log_is_a_log`: a valid log, followed by the lines of entries that are true after its updates, is a valid log
-- with all entries.
use Rattle.lv_hub.proofs.LogLaws.{stays_a_log}
use Rattle.lv_hub.proofs.laws.what_goes_on_behind_a_log_is_a_log.Goals as goal

pub returns : goal.returns
returns c = λ heading there entries edits. stays_a_log heading there entries edits
