-- Proof of `open`: puts a new vector into an empty slot.
use Rattle.std.proofs.Common.{refl, inr}
use Rattle.livevec_c.proofs.lifetimes.open.Goals as goal

pub returns-in-Ok : goal.returns-in-Ok
returns-in-Ok c = inr (refl, (c.in-Ok.held.value, c.put.ensures, c.in-Ok.ensures))
