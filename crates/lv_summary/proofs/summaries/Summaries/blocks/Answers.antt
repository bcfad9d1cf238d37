-- Proof of `Summaries::blocks`: how many blocks have rows.
use Rattle.std.proofs.Common.{arith, sym, ◌∙◌}
use Rattle.lv_summary.proofs.NodeRows.{blocks_in-rows, rows_fit}
use Rattle.lv_summary.proofs.summaries.Summaries.blocks.Goals as goal

pub overflow_cast-result : goal.overflow_cast-result
overflow_cast-result g c = omega (arith, rows_fit c.self.invariant)

pub returns-clause-value : goal.returns-clause-value
returns-clause-value g c = rw (← c.self.view_is) (c.rows.ensures ∙ sym (blocks_in-rows _))

pub returns-clause-bound : goal.returns-clause-bound
returns-clause-bound g c = omega (arith, c.rows.ensures, rows_fit c.self.invariant)
