-- Proof of `restore_edits`: puts a vector that is made anew from edits into an empty slot.
use Rattle.std.proofs.Common.{subst}
use Rattle.livevec_c.specs.Lives.{IsNewObject}
use Rattle.livevec_c.proofs.RemadeLaws.{restored_all}
use Rattle.livevec_c.proofs.restores.restore_edits.Goals as goal

pub returns-in-Ok : goal.returns-in-Ok
returns-in-Ok c =
    let a = c.args in
    restored_all a.only a.limits a.edits.now c.in-Ok.held.value _ c.place_remade.result
    (subst (λ t. IsNewObject a.only a.limits t c.in-Ok.held.value) c.program.ensures c.in-Ok.ensures) c.place_remade.ensures
