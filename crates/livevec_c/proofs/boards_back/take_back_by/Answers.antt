-- Proof of `take_back_by`.
use Rattle.std.proofs.Common.{refl}
use Rattle.livevec_c.proofs.boards_back.take_back_by.Goals as goal

pub returns-in-Board : goal.returns-in-Board
returns-in-Board c = rw c.in-Board.is (c.take_back_held.new.board, refl, c.take_back_held.ensures)
