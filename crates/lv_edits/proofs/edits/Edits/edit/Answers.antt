-- Proof of `Edits::edit`: the number of the last edit, 0 before the first.
use Rattle.lv_edits.proofs.edits.Edits.edit.Goals as goal

pub returns-clause-limits : goal.returns-clause-limits
returns-clause-limits c = rw (← c.self.view_is) c.self.invariant.kept
