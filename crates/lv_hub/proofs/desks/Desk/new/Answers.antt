-- Proof of `Desk::new`: an empty vector with an empty history, for which nobody sleeps, and a share of all parts of the blank's ledger, which
-- counts nothing and has seen nothing.
use Rattle.std.proofs.Common.{subst}
use Rattle.lv_hub.specs.Renewing.{IsOfOneVector}
use Rattle.lv_hub.proofs.desks.Desk.new.Goals as goal

pub returns-clause-one : goal.returns-clause-one
returns-clause-one g c = subst IsOfOneVector c.requires.limits c.edits.ensures.allowed.few_edits
