-- Proof of `open_with`: puts a new vector with an automaton of a table into an empty slot.
use Rattle.std.proofs.Common.{refl, inr}
use Rattle.livevec_c.proofs.Openings.{opens_alike}
use Rattle.livevec_c.proofs.lifetimes.open_with.Goals as goal

pub returns-in-Ok : goal.returns-in-Ok
returns-in-Ok c = inr (c.in-Ok.ensures.taken.0 refl, opens_alike _ _ _ _ _ _ _ refl c.in-Ok.ensures.table c.open.ensures)
