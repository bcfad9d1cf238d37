-- Proof of `Edits::write_all`: writes values at indices in order, all of them or none, and tells the number of the last edit.
use Rattle.lv_edits.proofs.edits.Edits.write_all.Goals as goal

pub returns-in-Some-clause-limits : goal.returns-in-Some-clause-limits
returns-in-Some-clause-limits c = rw (← c.self.view_is) c.self.invariant.kept
