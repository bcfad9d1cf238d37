-- Proof of `restore`: the series that was read.
use Rattle.std.proofs.Common.{false, subst}
use Rattle.std.specs.Prelude.{IfOk}
use Rattle.lv_saved.specs.Readings.{IsReading}
use Rattle.lv_saved.proofs.restoring.restore.Goals as goal

pub returns-clause-series : goal.returns-clause-series
returns-clause-series c = λ bytes exact. c.in-Some.ensures.series bytes (subst (λ r. IfOk r (IsReading bytes false)) c.in-Ok.is exact)
