-- Proof of `is_fresh`: whether a node is whole, and what is kept for it has the number of the last edit that touched it.
use Rattle.std.proofs.Common.{sym, ◌∙◌}
use Rattle.lv_summary.proofs.NodeRows.{fresh_in-rows}
use Rattle.lv_summary.proofs.delivery.is_fresh.Goals as goal

pub returns-in-Some : goal.returns-in-Some
returns-in-Some g c = c.is_current.ensures ∙ sym (fresh_in-rows _ _ _ c.in-Some.ensures.some)
