-- Proof of `close_object`: closes an object, if it is a board.
use Rattle.livevec_c.proofs.Others.{other_closes}
use Rattle.livevec_c.proofs.closed.close_object.Goals as goal

pub returns-in-Board : goal.returns-in-Board
returns-in-Board c = rw c.in-Board.is c.close_board.ensures

pub returns-in_default : goal.returns-in_default
returns-in_default c = rw c.uncounted.ensures (other_closes c.args.object c.in_default.not-Board)
