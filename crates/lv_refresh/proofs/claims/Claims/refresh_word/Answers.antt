-- Proof of `Claims::refresh_word`.
use Rattle.lv_refresh.specs.Inner.{claims_of}
use Rattle.lv_refresh.proofs.SweepLaws.{AreClaims-unhinted, UnhintsBlocks-by_rows, others_stay, sweeps_unhinted}
use Rattle.lv_refresh.proofs.claims.Claims.refresh_word.Goals as goal

pub invariant_of-self : goal.invariant_of-self
invariant_of-self g c =
    AreClaims-unhinted _ _ c.args.word c.unhint_word.ensures (others_stay c.self.inside.levels c.unhint_word.new.self) c.self.invariant

pub returns-clause-sweeps : goal.returns-clause-sweeps
returns-clause-sweeps g c =
    sweeps_unhinted (g.B.Body.operations c.args.body.now) c.args.history.now.journal c.args.table.now c.refresh_each-done.new.table c.args.self.now (claims_of c.self.inside.levels) _ c.refresh_each-done.result c.args.word
    (rw (← c.self.view_is) at c.refresh_each-done.ensures.sweeps) (UnhintsBlocks-by_rows _ _ c.args.word c.unhint_word.ensures (others_stay c.self.inside.levels c.unhint_word.new.self))
