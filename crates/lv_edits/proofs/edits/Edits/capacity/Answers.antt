-- Proof of `Edits::capacity`: how many elements the open buckets hold.
use Rattle.lv_edits.specs.Inner.{noted}
use Rattle.lv_edits.proofs.CapacityLaws.{IsCapacityAfter-needed}
use Rattle.lv_edits.proofs.HoldsLaws.{capacity_held}
use Rattle.lv_edits.proofs.edits.Edits.capacity.Goals as goal

pub returns-clause-value : goal.returns-clause-value
returns-clause-value c =
    rw (← c.self.view_is, c.capacity.ensures.value, c.buckets.ensures.value) (capacity_held _ _ c.self.invariant)

pub returns-clause-least : goal.returns-clause-least
returns-clause-least c =
    rw (← c.self.view_is, c.capacity.ensures.value, c.buckets.ensures.value) (IsCapacityAfter-needed (noted c.self.inside.journal) c.self.inside.store.buckets c.self.invariant.needed)

pub returns-clause-limits : goal.returns-clause-limits
returns-clause-limits c = rw (← c.self.view_is) c.self.invariant.kept
