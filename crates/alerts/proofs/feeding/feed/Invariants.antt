-- Loop invariants of `feed`: pushes the readings of a sensor, in order.
use Rattle.alerts.specs.Followed.{HasFed}
use Rattle.alerts.proofs.feeding.feed.Given as goal

abbrev pub invariant-loop-k : goal.invariant-loop-k
invariant-loop-k g l = HasFed l.k l.fn.share l.fed.share l.fed.accepted l.fed.refused
