-- Proof of `Store::settle`: completes the writes that are pending, if any are.
use Rattle.std.proofs.Common.{Some}
use Rattle.lv_store.proofs.ShowsLaws.{IsStore-completed, Shows-completed}
use Rattle.lv_store.proofs.stores.Store.settle.Goals as goal

pub invariant_of-self : goal.invariant_of-self
invariant_of-self c =
    rw (c.put-2.ensures.values, c.put-2.ensures.versions, c.put.ensures.values, c.put.ensures.versions)
    (IsStore-completed _ (Some c.in-Some.writes) c.in-Some.is c.self.invariant)

pub returns-clause-shows : goal.returns-clause-shows
returns-clause-shows c all shown =
    rw (c.put-2.ensures.values, c.put-2.ensures.versions, c.put.ensures.values, c.put.ensures.versions)
    (Shows-completed _ (Some c.in-Some.writes) c.in-Some.is c.self.invariant all (rw (← c.self.view_is) at shown))

pub returns-clause-sound : goal.returns-clause-sound
returns-clause-sound c = invariant_of-self c
