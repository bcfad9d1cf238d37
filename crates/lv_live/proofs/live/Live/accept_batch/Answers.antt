-- Proof of `Live::accept_batch`.
use Rattle.lv_live.proofs.live.Live.accept_batch.Goals as goal

pub returns-clause-delivers : goal.returns-clause-delivers
returns-clause-delivers g c = rw (← c.outcomes.view_is) (rw (← c.deref.ensures.value) c.accept_each.ensures.delivers)
