-- Proof of `Store::push_all`: makes one edit for each value, in order, which appends the value at the end and is completed at once.
use Rattle.std.proofs.Common.{◌≡◌, None, subst, sym, arith}
use Rattle.lv_geometry.proofs.Capacities.{capacity_of_most}
use Rattle.lv_store.specs.State.{StoreState}
use Rattle.lv_store.proofs.PushLaws.{PushedAll, pushed_all_has, pushed_all_is, with_all}
use Rattle.lv_store.proofs.stores.Store.push_all.Goals as goal
use Rattle.lv_store.proofs.stores.Store.push_all.Goals.{After-put_all}

-- the store that was
abbrev was : (c : After-put_all) → StoreState
was c = record { limits = c.self.inside.limits; descriptor = c.self.inside.descriptor; buckets = c.self.inside.values.buckets; values = c.self.inside.values.cells; versions = c.self.inside.versions.items }

-- nothing is pending in it
free : (c : After-put_all) → (was c).descriptor.pending ≡ None
free c = rw (← c.self.view_is) at c.requires.settled

-- what the pushes make of it
has : (c : After-put_all) → PushedAll (was c) (with_all (was c) c.args.values.now) c.args.values.now
has c =
    subst (λ t. PushedAll (was c) t c.args.values.now) (pushed_all_is (was c) c.args.values.now (free c))
    (pushed_all_has (was c) c.args.values.now c.self.invariant (free c) (rw (← c.self.view_is) at c.requires.edits) (rw (← c.self.view_is) at c.requires.room) c.put_all.ensures.elements)

pub invariant_of-self : goal.invariant_of-self
invariant_of-self c = rw (c.put_all.ensures.values, c.put_all.ensures.versions) (has (goal.at.invariant_of-self c).After-put_all).sound

pub returns-clause-state : goal.returns-clause-state
returns-clause-state c =
    rw (← c.self.view_is, c.put_all.ensures.values, c.put_all.ensures.versions) (sym (pushed_all_is (was (goal.at.returns-clause-state c).After-put_all) c.args.values.now (free (goal.at.returns-clause-state c).After-put_all)))

pub returns-clause-shows : goal.returns-clause-shows
returns-clause-shows c all shown =
    rw (← c.self.view_is, c.put_all.ensures.values, c.put_all.ensures.versions) ((has (goal.at.returns-clause-shows c).After-put_all).shows all (rw (← c.self.view_is) at shown))

pub returns-clause-sound : goal.returns-clause-sound
returns-clause-sound c = invariant_of-self c

pub put_all-requires-clause-few : goal.put_all-requires-clause-few
put_all-requires-clause-few c =
    omega (arith, c.self.invariant.values, c.self.invariant.few, capacity_of_most c.self.inside.values.buckets (omega (arith, c.self.invariant.few, c.self.invariant.allowed.few_buckets)))

pub overflow_add-self-2 : goal.overflow_add-self-2
overflow_add-self-2 c =
    let room = rw (← c.self.view_is) at c.requires.room in
    omega (arith, room, capacity_of_most c.self.inside.values.buckets (omega (arith, c.self.invariant.few, c.self.invariant.allowed.few_buckets)))
