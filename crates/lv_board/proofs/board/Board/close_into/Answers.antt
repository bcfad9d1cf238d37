-- Proof of `Board::close_into`: returns the vector when its threads are done, in a vector that has room for its elements, so that this allocates
-- no memory.
use Rattle.lv_board.specs.Rule.{terms_of}
use Rattle.lv_board.proofs.Closes.{closed_of}
use Rattle.lv_board.proofs.board.Board.close_into.Goals as goal

pub returns : goal.returns
returns g c = closed_of (terms_of g.B.BoardBody.folding c.args.self.terms) c.args.seats.items c.close_by.result c.requires.all c.close_by.ensures
