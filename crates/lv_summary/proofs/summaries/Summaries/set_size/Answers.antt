-- Proof of `Summaries::set_size`: notes how many elements the vector has, which decides the nodes that are whole.
use Rattle.lv_summary.proofs.Growth.{HasSize-by_rows, IsSound-size}
use Rattle.lv_summary.proofs.summaries.Summaries.set_size.Goals as goal

pub invariant_of-self : goal.invariant_of-self
invariant_of-self g c = IsSound-size c.self.invariant c.args.size (rw (← c.self.view_is) at c.requires)

pub returns : goal.returns
returns g c = rw (← c.self.view_is) (HasSize-by_rows _ _)
