-- Proof of `place_remade`: makes edits at an object, one after the other, and puts the object into an empty slot if all were made.
use Rattle.std.proofs.Common.{sym}
use Rattle.livevec_c.proofs.restores.place_remade.Goals as goal

pub returns-in-Ok : goal.returns-in-Ok
returns-in-Ok c = rw (sym c.deref_mut.ensures.value) (_, c.in-Ok.ensures, c.put.ensures)

pub returns-in-Err : goal.returns-in-Err
returns-in-Err c = rw (sym c.deref_mut.ensures.value) (_, c.in-Err.ensures, c.requires)
