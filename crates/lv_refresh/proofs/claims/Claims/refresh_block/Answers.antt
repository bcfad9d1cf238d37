-- Proof of `Claims::refresh_block`.
use Rattle.lv_refresh.proofs.NextLaws.{HintsWants-from}
use Rattle.lv_refresh.proofs.SweepLaws.{sweeps_one}
use Rattle.lv_refresh.proofs.claims.Claims.refresh_block.Goals as goal

pub claim_block-requires-clause-hints : goal.claim_block-requires-clause-hints
claim_block-requires-clause-hints g c = HintsWants-from _ _ _ c.requires.swept.agrees _ c.requires.swept.hints

pub returns-clause-sweeps : goal.returns-clause-sweeps
returns-clause-sweeps g c =
    sweeps_one (g.B.Body.operations c.args.body.now) c.args.history.now.journal c.args.table.now c.install_due.new.self c.args.self.now c.claim_block.new.self c.hint_above.new.self c.args.number c.in-Some.version
    c.requires.swept c.in-Some.ensures.some c.hint_above.ensures (rw c.fold_near-summary.ensures at c.install_due.ensures)
