-- Proof of `remake_told`: makes edits at a vector, one after the other. If one is refused, it returns how many edits the vector has then.
use Rattle.std.proofs.Common.{length, ap, ◌∙◌}
use Rattle.livevec_c.specs.Behind.{State}
use Rattle.livevec_c.proofs.RemadeLaws.{told_at}
use Rattle.livevec_c.proofs.restores.remake_told.Goals as goal

pub returns-in-Ok : goal.returns-in-Ok
returns-in-Ok c = let e = c.in-Ok.ensures in record { edits = e.edits; refresh = e.refresh; within = e.limits }

pub returns-in-Err : goal.returns-in-Err
returns-in-Err c =
    let e = c.in-Err.ensures in
    let many = c.edit.ensures ∙ ap (λ (s : State). length s.history.journal) c.live-in-Err.ensures in
    record { edits = told_at c.args.edits.now c.args.vector.now.history c.remake.new.vector.history c.in-Err.refusal c.edit.result many e.edits; refresh = e.refresh; within = e.limits }
