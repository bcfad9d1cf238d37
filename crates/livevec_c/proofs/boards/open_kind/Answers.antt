-- Proof of `open_kind`: a new board of a kind.
use Rattle.livevec_c.proofs.Programs.{newly_alike}
use Rattle.livevec_c.proofs.boards.open_kind.Goals as goal

pub returns-in-Ok-new-5-clause-ok : goal.returns-in-Ok-new-5-clause-ok
returns-in-Ok-new-5-clause-ok c = rw c.in-Automaton.is (newly_alike _ _ _ _ _ _ c.program.ensures c.in-Ok-new-5.ensures.ok)
