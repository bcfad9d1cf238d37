-- Proof of `Board::meet`: both seats look, the second after it got from the first what that one knows.
use Rattle.std.proofs.Common.{sym, ap, ◌∙◌, subst}
use Rattle.lv_machine.specs.History.{Ends}
use Rattle.lv_board.specs.Calls.{HasLooked}
use Rattle.lv_board.specs.Rule.{terms_of}
use Rattle.lv_board.proofs.Calling.{has_looked}
use Rattle.lv_board.proofs.board.Board.meet.Goals as goal

pub returns-clause-first_looked : goal.returns-clause-first_looked
returns-clause-first_looked g c =
    let looked = has_looked g.B.BoardBody.folding c.args.first.now.terms c.args.self.now.terms c.args.first.now.token.me.0.actor c.load_descriptor.new.seat.token.me.0.actor c.load_descriptor.new.seat.look c.requires.first.terms c.load_descriptor.ensures.quiet c.load_descriptor.ensures.sees in
    subst (HasLooked (terms_of g.B.BoardBody.folding c.args.self.now.terms) c.args.first.now.token.me.0.actor) (sym c.tell-note.ensures.same.actor) looked

pub returns-clause-told : goal.returns-clause-told
returns-clause-told g c =
    let known = ap (λ m. m.0.actor.known) c.tell-note.ensures.note in
    let all = c.load_descriptor.ensures.sees.all in
    subst (λ h. Ends h c.hear.new.seat.token.me.0.actor.seen) (known ∙ sym all ∙ ap (λ a. a.seen) (sym c.tell-note.ensures.same.actor)) c.hear.ensures.told

pub returns-clause-first_moves : goal.returns-clause-first_moves
returns-clause-first_moves g c = c.tell-note.ensures.same.moves ∙ c.load_descriptor.ensures.moves
