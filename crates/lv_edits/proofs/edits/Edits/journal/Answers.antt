-- Proof of `Edits::journal`: all edits that were accepted, the first of them first.
use Rattle.lv_edits.proofs.edits.Edits.journal.Goals as goal

pub returns-clause-limits : goal.returns-clause-limits
returns-clause-limits c = rw (← c.self.view_is) c.self.invariant.kept
