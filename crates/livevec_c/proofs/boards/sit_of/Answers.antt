-- Proof of `sit_of`.
use Rattle.std.proofs.Common.{refl}
use Rattle.livevec_c.proofs.boards.sit_of.Goals as goal

pub returns-in-Board : goal.returns-in-Board
returns-in-Board c = rw c.in-Board.is (c.sit_board.new.board, refl, c.sit_board.ensures)
