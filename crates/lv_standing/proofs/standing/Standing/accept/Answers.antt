-- Proof of `Standing::accept`: delivers an outcome: it is stale, or held already, or its summary is installed.
use Rattle.lv_standing.proofs.standing.Standing.accept.Goals as goal

pub accept-requires-after_bounds : goal.accept-requires-after_bounds
accept-requires-after_bounds c κs = rw (← c.self.view_is) at c.requires

pub returns-clause-accepted : goal.returns-clause-accepted
returns-clause-accepted c = rw (← c.self.view_is) c.accept.ensures.accepted

pub returns-clause-delivered : goal.returns-clause-delivered
returns-clause-delivered c = rw (← c.self.view_is) c.accept.ensures.delivered
