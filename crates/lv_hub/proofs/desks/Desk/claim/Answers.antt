-- Proof of `Desk::claim`: a job for the least node that needs one, or none.
use Rattle.lv_hub.proofs.desks.Desk.claim.Goals as goal

pub returns-clause-next : goal.returns-clause-next
returns-clause-next g c = rw (← c.self.view_is) c.claim-job.ensures.next
