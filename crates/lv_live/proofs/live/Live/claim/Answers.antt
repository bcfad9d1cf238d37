-- Proof of `Live::claim`: a job for the least node that wants one, or none.
use Rattle.lv_live.proofs.DeliverLaws.{claimed_by, honest_claim}
use Rattle.lv_live.proofs.live.Live.claim.Goals as goal

pub returns-clause-next : goal.returns-clause-next
returns-clause-next g c = rw (← c.self.view_is) c.claim.ensures.next

pub returns-clause-claimed : goal.returns-clause-claimed
returns-clause-claimed g c =
    rw (← c.self.view_is) (claimed_by (g.B.Body.operations c.self.inside.body) (g.B.Body.is_within c.self.inside.body) (g.B.Body.laws c.self.inside.body) _ c.self.invariant c.claim.new.self c.claim.result c.claim.ensures.claimed c.claim.ensures.idle)

pub returns-clause-honest : goal.returns-clause-honest
returns-clause-honest g c =
    rw (← c.self.view_is) (honest_claim (g.B.Body.operations c.self.inside.body) (g.B.Body.is_within c.self.inside.body) (g.B.Body.laws c.self.inside.body) _ c.self.invariant c.claim.new.self c.claim.result c.claim.ensures.next c.claim.ensures.job)
