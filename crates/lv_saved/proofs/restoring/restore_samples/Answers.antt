-- Proof of `restore_samples`: the samples that were read.
use Rattle.std.proofs.Common.{true, subst}
use Rattle.std.specs.Prelude.{IfOk}
use Rattle.lv_saved.specs.Readings.{IsReading}
use Rattle.lv_saved.proofs.restoring.restore_samples.Goals as goal

pub returns-clause-samples : goal.returns-clause-samples
returns-clause-samples c = λ bytes exact. c.in-Some.ensures.samples bytes (subst (λ r. IfOk r (IsReading bytes true)) c.in-Ok.is exact)
