-- Proof of `open_by`: puts a new vector into an empty slot, with an automaton of a table or with the program's.
use Rattle.std.proofs.Common.{refl}
use Rattle.livevec_c.proofs.Openings.{opens_alike}
use Rattle.livevec_c.proofs.lifetimes.open_by.Goals as goal

pub returns-then-by_table : goal.returns-then-by_table
returns-then-by_table c = rw c.if-by_table.true c.open_with.ensures

pub returns-else-by_table : goal.returns-else-by_table
returns-else-by_table c = rw c.if-by_table.false (opens_alike _ _ _ _ _ _ _ refl c.program.ensures c.open.ensures)
