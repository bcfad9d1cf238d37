-- Proof of `Board::try_edit`: one try, from such a look.
use Rattle.lv_board.specs.Rule.{terms_of}
use Rattle.lv_board.proofs.Calling.{try_of_looked}
use Rattle.lv_board.proofs.Still.{still_at, still_exchanged, still_looked, still_then}
use Rattle.lv_board.proofs.board.Board.try_edit.Goals as goal

pub edit_looked-requires-clause-here : goal.edit_looked-requires-clause-here
edit_looked-requires-clause-here g c = λ _ _. still_at _ _ c.args.seat.now c.look_where.new.seat c.requires.here (still_looked (terms_of g.B.BoardBody.folding c.args.self.now.terms) c.args.seat.now c.look_where.new.seat c.look_where.ensures.stays c.look_where.ensures.looked)

pub returns-clause-still : goal.returns-clause-still
returns-clause-still g c = still_then c.args.seat.now c.look_where.new.seat c.edit_looked.new.seat
    (still_looked (terms_of g.B.BoardBody.folding c.args.self.now.terms) c.args.seat.now c.look_where.new.seat c.look_where.ensures.stays c.look_where.ensures.looked)
    (still_exchanged (terms_of g.B.BoardBody.folding c.args.self.now.terms) c.look_where.new.seat c.edit_looked.new.seat c.args.edit c.edit_looked.result c.edit_looked.ensures.stays c.edit_looked.ensures.answer)

pub returns-clause-answer : goal.returns-clause-answer
returns-clause-answer g c = try_of_looked (terms_of g.B.BoardBody.folding c.args.self.now.terms) c.args.seat.now.token.me.0.actor c.look_where.new.seat.token.me.0.actor c.edit_looked.new.seat.token.me.0.actor c.args.edit c.edit_looked.result c.look_where.ensures.looked c.edit_looked.ensures.answer
