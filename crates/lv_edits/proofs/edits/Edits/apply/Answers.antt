-- Proof of `Edits::apply`: makes an edit of any kind if no error applies to it. The check is made once.
use Rattle.lv_edits.proofs.edits.Edits.apply.Goals as goal

pub returns-in-Some-clause-limits : goal.returns-in-Some-clause-limits
returns-in-Some-clause-limits c = rw (← c.self.view_is) c.self.invariant.kept
