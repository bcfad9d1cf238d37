-- Proof of `Board::look`: looks at the descriptor: one load.
use Rattle.lv_board.proofs.Calling.{has_looked}
use Rattle.lv_board.proofs.board.Board.look.Goals as goal

pub returns-clause-looked : goal.returns-clause-looked
returns-clause-looked g c = has_looked g.B.BoardBody.folding c.args.seat.now.terms c.args.self.now.terms c.args.seat.now.token.me.0.actor c.load_descriptor.new.seat.token.me.0.actor c.load_descriptor.new.seat.look c.requires.terms c.load_descriptor.ensures.quiet c.load_descriptor.ensures.sees
