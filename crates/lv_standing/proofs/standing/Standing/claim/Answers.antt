-- Proof of `Standing::claim`: a job for the least node that wants one, or none.
use Rattle.lv_standing.proofs.standing.Standing.claim.Goals as goal

pub returns-clause-next : goal.returns-clause-next
returns-clause-next c = rw (← c.self.view_is) c.claim.ensures.next
