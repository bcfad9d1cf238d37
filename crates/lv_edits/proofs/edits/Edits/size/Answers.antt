-- Proof of `Edits::size`: how many elements there are.
use Rattle.std.proofs.Common.{◌∙◌}
use Rattle.lv_edits.proofs.HoldsLaws.{size_held}
use Rattle.lv_edits.proofs.edits.Edits.size.Goals as goal

pub returns-clause-value : goal.returns-clause-value
returns-clause-value c = rw (← c.self.view_is) (c.size.ensures.value ∙ size_held _ _ c.self.invariant)

pub returns-clause-limits : goal.returns-clause-limits
returns-clause-limits c = rw (← c.self.view_is) c.self.invariant.kept
