-- Proof of `Board::take_for`: replaces or drops the element at an index that the update names, and returns it and the update's number.
use Rattle.std.proofs.Common.{rules, ◌≡◌, ◌∷◌, pos, ◌<◌, length, refl, sym, ap, ◌∙◌, subst, inr, arith}
use Rattle.std.specs.Int.{w64}
use Rattle.std.specs.List.{slice_index_or}
use Rattle.std.proofs.lemmas.Int.{to_z-of_z}
use Rattle.lv_machine.specs.declared.moves.Move.TheVariants.{Read}
use Rattle.lv_machine.specs.History.{elements_of}
use Rattle.lv_machine.proofs.ReadLaws.{cell_element}
use Rattle.lv_board.specs.Plays.{IsAccepted, IsContended}
use Rattle.lv_board.specs.Rule.{terms_of}
use Rattle.lv_board.proofs.Calling.{contended_looked, helped_quiet, quiet_then}
use Rattle.lv_board.specs.Moved.{help_of}
use Rattle.lv_board.proofs.Moving.{cell_after_help, exchange_left, exchange_lost, exchange_made}
use Rattle.lv_board.proofs.board.Board.take_for.Goals as goal

pub returns-in-Err-exchange_for-clause-answer : goal.returns-in-Err-exchange_for-clause-answer
returns-in-Err-exchange_for-clause-answer g c =
    let told = subst (λ z. IsContended (terms_of g.B.BoardBody.folding z) c.load_cell.new.seat.token.me.0.actor c.exchange_for.new.seat.token.me.0.actor c.exchange_for.new.seat.look) (c.load_cell.ensures.stays.terms ∙ c.help.ensures.stays.terms ∙ c.requires.here.terms) c.in-Err-exchange_for.ensures.contended in
    let same : c.load_cell.new.seat.token.me.0.actor.seen ≡ c.args.seat.now.token.me.0.actor.seen = ap (λ a. a.seen) c.load_cell.ensures.rest ∙ c.help.ensures.seen in
    let quiet = quiet_then c.args.seat.now.token.me.0.actor c.help.new.seat.token.me.0.actor c.load_cell.new.seat.token.me.0.actor (helped_quiet c.args.seat.now.token.me.0.actor c.help.new.seat.token.me.0.actor c.help.ensures.made c.help.ensures.known c.help.ensures.number) c.load_cell.ensures.quiet in
    inr (c.load_cell.new.seat.token.me.0.actor, quiet, same, contended_looked (terms_of g.B.BoardBody.folding c.args.self.now.terms) c.load_cell.new.seat.token.me.0.actor c.load_cell.new.seat.token.me.0.actor c.exchange_for.new.seat.token.me.0.actor c.exchange_for.new.seat.look (helped_quiet c.load_cell.new.seat.token.me.0.actor c.load_cell.new.seat.token.me.0.actor refl refl refl) told, omega (arith, told.later, ap length same), sym told.sees.all, c.in-Err-exchange_for.ensures.refusal)

pub returns-in-Ok-exchange_for-clause-answer : goal.returns-in-Ok-exchange_for-clause-answer
returns-in-Ok-exchange_for-clause-answer g c =
    let told = subst (λ z. IsAccepted (terms_of g.B.BoardBody.folding z) c.load_cell.new.seat.token.me.0.actor c.exchange_for.new.seat.token.me.0.actor record { actor = c.load_cell.new.seat.token.me.0.actor.number; edit = c.args.edit }) (c.load_cell.ensures.stays.terms ∙ c.help.ensures.stays.terms ∙ c.requires.here.terms) c.in-Ok-exchange_for.ensures.accepted in
    let same : c.load_cell.new.seat.token.me.0.actor.seen ≡ c.args.seat.now.token.me.0.actor.seen = ap (λ a. a.seen) c.load_cell.ensures.rest ∙ c.help.ensures.seen in
    let quiet = quiet_then c.args.seat.now.token.me.0.actor c.help.new.seat.token.me.0.actor c.load_cell.new.seat.token.me.0.actor (helped_quiet c.args.seat.now.token.me.0.actor c.help.new.seat.token.me.0.actor c.help.ensures.made c.help.ensures.known c.help.ensures.number) c.load_cell.ensures.quiet in
    let within : c.args.i < length (elements_of c.help.new.seat.token.me.0.actor.seen) = subst (λ h. c.args.i < length (elements_of h)) (sym c.help.ensures.seen) c.requires.within in
    let value = to_z-of_z w64 c.in-Ok.value (search rules) ∙ c.in-Ok.ensures.taken ∙ cell_element (terms_of g.B.BoardBody.folding c.args.self.now.terms) c.args.i c.help.new.seat.token.me.0.actor.seen c.load_cell.ensures.terms c.load_cell.ensures.legal within ∙ ap (λ h. slice_index_or (elements_of h) c.args.i (pos 0)) c.help.ensures.seen in
    (c.load_cell.new.seat.token.me.0.actor, quiet, same, told, c.in-Ok-exchange_for.ensures.number, value)

pub returns-in-Err-clause-moves : goal.returns-in-Err-clause-moves
returns-in-Err-clause-moves g c =
    let ready = Read c.args.seat.now.token.me.0.actor.number ∷ help_of c.args.seat.now.token.me.0.actor.number c.args.seat.now.token.me.0.actor.seen in
    exchange_left c.args.seat.now.token.me.0.actor.number c.in-Err.ensures.overtaken.version c.args.edit c.in-Err.refusal ready c.args.seat.now.token.me.0.moves c.load_cell.new.seat.token.me.0.moves c.in-Err.ensures.overtaken.refusal_is (cell_after_help c.args.seat.now c.help.new.seat c.load_cell.new.seat c.help.ensures c.load_cell.ensures.moves)

pub returns-in-Err-exchange_for-clause-moves : goal.returns-in-Err-exchange_for-clause-moves
returns-in-Err-exchange_for-clause-moves g c =
    let ready = Read c.args.seat.now.token.me.0.actor.number ∷ help_of c.args.seat.now.token.me.0.actor.number c.args.seat.now.token.me.0.actor.seen in
    exchange_lost c.args.seat.now.token.me.0.actor.number c.load_cell.new.seat.token.me.0.actor.number (length c.exchange_for.new.seat.token.me.0.actor.seen) c.args.edit c.in-Err-exchange_for.refusal ready c.args.seat.now.token.me.0.moves c.load_cell.new.seat.token.me.0.moves c.exchange_for.new.seat.token.me.0.moves c.in-Err-exchange_for.ensures.refusal
    (c.load_cell.ensures.quiet.number ∙ c.help.ensures.number) (cell_after_help c.args.seat.now c.help.new.seat c.load_cell.new.seat c.help.ensures c.load_cell.ensures.moves) c.exchange_for.ensures.moves

pub returns-in-Ok-exchange_for-clause-moves : goal.returns-in-Ok-exchange_for-clause-moves
returns-in-Ok-exchange_for-clause-moves g c =
    let ready = Read c.args.seat.now.token.me.0.actor.number ∷ help_of c.args.seat.now.token.me.0.actor.number c.args.seat.now.token.me.0.actor.seen in
    exchange_made c.args.seat.now.token.me.0.actor.number c.load_cell.new.seat.token.me.0.actor.number c.args.edit ready c.args.seat.now.token.me.0.moves c.load_cell.new.seat.token.me.0.moves c.exchange_for.new.seat.token.me.0.moves
    (c.load_cell.ensures.quiet.number ∙ c.help.ensures.number) (cell_after_help c.args.seat.now c.help.new.seat c.load_cell.new.seat c.help.ensures c.load_cell.ensures.moves) c.exchange_for.ensures.moves
