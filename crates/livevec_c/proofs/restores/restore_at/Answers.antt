-- Proof of `restore_at`: puts a vector that is made anew from a text into an empty slot.
use Rattle.std.proofs.Common.{Ok, Err, ap, ◌∙◌}
use Rattle.livevec_c.specs.Audits.{unaudited}
use Rattle.livevec_c.proofs.restores.restore_at.Goals as goal

pub returns-in-Err : goal.returns-in-Err
returns-in-Err c = (Err c.in-Err.why, c.in-Err.ensures, (c.not_audited.ensures ∙ ap unaudited c.unread_number.ensures, c.requires))

pub returns-in-Ok : goal.returns-in-Ok
returns-in-Ok c = (Ok c.in-Ok.found, c.in-Ok.ensures, c.restore_found.ensures)
