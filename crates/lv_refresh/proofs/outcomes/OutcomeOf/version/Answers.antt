-- Proof of `OutcomeOf::version`: the version that the summary is of.
use Rattle.lv_refresh.proofs.outcomes.OutcomeOf.version.Goals as goal

pub returns : goal.returns
returns g c = rw (← c.self.view_is) c.version.ensures
