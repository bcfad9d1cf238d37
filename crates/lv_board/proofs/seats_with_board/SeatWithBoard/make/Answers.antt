-- Proof of `SeatWithBoard::make`: makes a call, and returns how it ends, with a fold as its plain value.
use Rattle.std.proofs.Common.{refl}
use Rattle.lv_board.proofs.seats_with_board.SeatWithBoard.make.Goals as goal

pub returns-clause-makes : goal.returns-clause-makes
returns-clause-makes g c =
    let at_board = rw c.deref.ensures at c.make_within.ensures.ends in
    record {
      same = refl;
      number = c.make_within.ensures.still.number;
      ends = rw c.max.ensures at at_board;
    }
