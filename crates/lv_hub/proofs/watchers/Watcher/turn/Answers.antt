-- Proof of `Watcher::turn`: sleeps until there is an update to look at, and reports it.
use Rattle.std.proofs.Common.{subst, sym}
use Rattle.lv_hub.specs.Notes.{HasTold}
use Rattle.lv_hub.specs.Noticing.{WatcherState}
use Rattle.lv_hub.proofs.Noticed.{watches_one}
use Rattle.lv_hub.proofs.watchers.Watcher.turn.Goals as goal

pub returns-in-Ok-Some : goal.returns-in-Ok-Some
returns-in-Ok-Some g c =
    let old : WatcherState = record { subscriber = c.self.inside.subscriber; notices = c.self.inside.notices } in
    let has = subst (λ s. HasTold g.N.Naming.limits old.subscriber s c.in-Ok-Some.told) (sym c.tell.ensures.subscriber) (rw c.in-Ok-Some.field-0-is at c.in-Ok-Some.ensures.told) in
    rw (← c.self.view_is) (watches_one g.N.Naming.limits g.N.Naming.numbers old c.tell.new.self c.in-Ok-Some.told has c.tell.ensures.written)

-- the edit number of a notification is one of a hub, and so small enough
pub tell-requires : goal.tell-requires
tell-requires g c = record { few = rw c.in-Ok-Some.field-0-is at c.in-Ok-Some.ensures.few }
