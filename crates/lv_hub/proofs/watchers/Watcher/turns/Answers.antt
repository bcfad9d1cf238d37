-- Proof of `Watcher::turns`: runs the subscriber in turns.
use Rattle.lv_hub.proofs.Noticed.{watches_both, watches_nothing}
use Rattle.lv_hub.proofs.watchers.Watcher.turns.Goals as goal

pub loop-init : goal.loop-init
loop-init g c = watches_nothing g.N.Naming.limits g.N.Naming.numbers c.args.self.now

pub loop-preserved : goal.loop-preserved
loop-preserved g c = watches_both g.N.Naming.limits g.N.Naming.numbers c.args.self.now c.loop.self c.turn.new.self c.loop.invariant c.turn.ensures
