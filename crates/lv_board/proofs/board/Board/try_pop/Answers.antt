-- Proof of `Board::try_pop`: looks, and drops the last element.
use Rattle.lv_edits.specs.declared.edit.Edit.TheVariants.{Pop}
use Rattle.lv_board.specs.Rule.{terms_of}
use Rattle.lv_board.proofs.Calling.{try_of_looked}
use Rattle.lv_board.proofs.Moving.{is_try}
use Rattle.lv_board.proofs.board.Board.try_pop.Goals as goal

pub returns-clause-answer : goal.returns-clause-answer
returns-clause-answer g c = try_of_looked (terms_of g.B.BoardBody.folding c.args.self.now.terms) c.args.seat.now.token.me.0.actor c.look.new.seat.token.me.0.actor c.pop_looked.new.seat.token.me.0.actor Pop c.pop_looked.result c.look.ensures.looked c.pop_looked.ensures.answer

pub returns-clause-moves : goal.returns-clause-moves
returns-clause-moves g c = is_try (terms_of g.B.BoardBody.folding c.args.self.now.terms) Pop c.pop_looked.result c.args.seat.now c.look.new.seat c.pop_looked.new.seat c.look.ensures.looked c.pop_looked.ensures.answer c.look.ensures.moves c.pop_looked.ensures.moves
