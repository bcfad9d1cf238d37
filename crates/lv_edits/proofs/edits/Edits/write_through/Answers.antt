-- Proof of `Edits::write_through`: overwrites the element at `index`, as `write` does, and completes that at once.
use Rattle.lv_edits.proofs.edits.Edits.write_through.Goals as goal

pub returns-in-Some-clause-limits : goal.returns-in-Some-clause-limits
returns-in-Some-clause-limits c = rw (← c.self.view_is) c.self.invariant.kept
