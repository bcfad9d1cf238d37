-- Proof of `Standing::claim_numbered`: claims a job for the least node that wants one, and keeps it under its number: that number.
use Rattle.lv_standing.proofs.standing.Standing.claim_numbered.Goals as goal

pub returns-clause-step : goal.returns-clause-step
returns-clause-step c = rw (← c.self.view_is) c.claim.ensures.step
