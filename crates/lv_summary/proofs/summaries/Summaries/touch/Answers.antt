-- Proof of `Summaries::touch`: notes that an edit touched index `i`, and so every node that has it.
use Rattle.std.proofs.Common.{refl}
use Rattle.lv_geometry.proofs.NodeLaws.{at_each_level}
use Rattle.lv_summary.proofs.Changes.{IsSound-touched, Touches-by_rows}
use Rattle.lv_summary.proofs.summaries.Summaries.touch.Goals as goal

pub invariant_of-self : goal.invariant_of-self
invariant_of-self g c =
    IsSound-touched c.self.invariant refl c.args.i c.args.edit c.requires.edit
    (at_each_level _ c.touch.ensures c.touch-2.ensures c.touch-3.ensures c.touch-4.ensures c.touch-5.ensures c.touch-6.ensures)

pub returns : goal.returns
returns g c =
    rw (← c.self.view_is) (
    Touches-by_rows c.self.invariant refl c.args.i c.args.edit (rw (← c.self.view_is) at c.requires.inside)
    (at_each_level _ c.touch.ensures c.touch-2.ensures c.touch-3.ensures c.touch-4.ensures c.touch-5.ensures c.touch-6.ensures))
