-- Proof of `Watcher::run`: runs the subscriber until the hub's workers are dismissed or a write fails.
use Rattle.lv_hub.proofs.Noticed.{watches_both}
use Rattle.lv_hub.proofs.watchers.Watcher.run.Goals as goal

pub returns : goal.returns
returns g c = watches_both g.N.Naming.limits g.N.Naming.numbers c.args.self.now c.turns.new.self c.look.new.self c.turns.ensures c.look.ensures
