-- Proof of `take_at`: takes a seat back at its board.
use Rattle.std.proofs.Common.{ap}
use Rattle.livevec_c.specs.declared.kind_seats.KindSeat.TheVariants as seats
use Rattle.livevec_c.specs.Kinds.{sat_at}
use Rattle.livevec_c.proofs.boards_back.take_at.Goals as goal

pub returns-in-Ok-take_back-5-clause-ok : goal.returns-in-Ok-take_back-5-clause-ok
returns-in-Ok-take_back-5-clause-ok c = rw c.in-Automaton-board.is (rw c.in-Automaton.is c.in-Ok-take_back-5.ensures.ok)

pub returns-in-Err-take_back-5-clause-err : goal.returns-in-Err-take_back-5-clause-err
returns-in-Err-take_back-5-clause-err c =
    let err = c.in-Err-take_back-5.ensures.err in
    rw c.in-Automaton-board.is (rw c.in-Automaton.is (ap (λ s. sat_at (seats.Automaton s)) err.0, err.1, err.2))
