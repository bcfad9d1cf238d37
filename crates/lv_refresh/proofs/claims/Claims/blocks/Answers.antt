-- Proof of `Claims::blocks`: how many blocks have rows.
use Rattle.std.proofs.Common.{arith, sym, ◌∙◌}
use Rattle.lv_refresh.proofs.RowLaws.{claim_blocks-rows, rows_fit}
use Rattle.lv_refresh.proofs.claims.Claims.blocks.Goals as goal

pub overflow_cast-result : goal.overflow_cast-result
overflow_cast-result c = omega (arith, rows_fit c.self.invariant)

pub returns-clause-value : goal.returns-clause-value
returns-clause-value c = rw (← c.self.view_is) (c.rows.ensures ∙ sym (claim_blocks-rows _))

pub returns-clause-bound : goal.returns-clause-bound
returns-clause-bound c = omega (arith, c.rows.ensures, rows_fit c.self.invariant)
