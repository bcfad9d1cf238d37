-- Loop invariants of `Watcher::turns`: runs the subscriber in turns.
use Rattle.lv_hub.specs.Noticing.{Watches}
use Rattle.lv_hub.proofs.watchers.Watcher.turns.Given as goal

abbrev pub invariant-loop : goal.invariant-loop
invariant-loop g l = Watches g.N.Naming.limits g.N.Naming.numbers l.initial.self l.self
