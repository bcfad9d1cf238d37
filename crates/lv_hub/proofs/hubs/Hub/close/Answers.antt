-- Proof of `Hub::close`: the vector, once all threads are done.
use Rattle.lv_hub.proofs.ToldLaws.{closed_counted, closed_seen, closed_vector}
use Rattle.lv_hub.proofs.hubs.Hub.close.Goals as goal

pub returns-clause-counted : goal.returns-clause-counted
returns-clause-counted g c = closed_counted _ _ _ _ c.finish-live.ensures.closed c.finish-live.ensures.counted

pub returns-clause-vector : goal.returns-clause-vector
returns-clause-vector g c = closed_vector _ _ _ c.finish-live.ensures.closed

pub returns-clause-seen : goal.returns-clause-seen
returns-clause-seen g c = closed_seen _ _ _ _ c.finish-live.ensures.closed c.finish-live.ensures.seen

pub returns-clause-accepted : goal.returns-clause-accepted
returns-clause-accepted g c = c.finish-live.ensures.closed.accepted
