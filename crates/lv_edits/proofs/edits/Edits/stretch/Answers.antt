-- Proof of `Edits::stretch`: a slice of elements from index `from` on, before `to`: as many as are contiguous in memory with no pending
-- write among them.
use Rattle.std.proofs.Common.{arith, length, ◌∙◌}
use Rattle.lv_store.proofs.ElementsLaws.{range_of_elements}
use Rattle.lv_edits.proofs.HoldsLaws.{size_held}
use Rattle.lv_edits.proofs.edits.Edits.stretch.Goals as goal

pub stretch-requires-clause-inside : goal.stretch-requires-clause-inside
stretch-requires-clause-inside c =
    let within = rw (← c.self.view_is) at c.requires.inside in
    omega (arith, within, size_held _ _ c.self.invariant, c.self.invariant.sound.size)

pub returns-clause-elements : goal.returns-clause-elements
returns-clause-elements c =
    let held = c.self.invariant in
    let inside = rw (← c.self.view_is) at c.requires.inside in
    let store = c.self.inside.store in
    let count = length c.stretch.result.now in
    rw (← c.self.view_is, ← held.items)
    (c.stretch.ensures.items ∙ range_of_elements store c.args.from count (omega (arith, inside, c.stretch.ensures.few, size_held _ _ held)))

pub returns-clause-limits : goal.returns-clause-limits
returns-clause-limits c = rw (← c.self.view_is) c.self.invariant.kept
