-- Proof of `Board::push_short`: appends an element of 16 bits, from the look that the seat has.
use Rattle.std.proofs.Common.{◌≡◌, ◌∷◌, ◌+◌, Ok, Err, length, refl, sym, ap, ◌∙◌, subst, inl, inr, arith, Result}
use Rattle.std.specs.Int.{w64, cast_signed, cast_unsigned}
use Rattle.std.proofs.lemmas.Int.{to_z-of_z}
use Rattle.lv_edits.specs.declared.edit.Edit.TheVariants.{Push}
use Rattle.lv_geometry.specs.declared.refusals.Refusal.{Refusal}
use Rattle.lv_edits.specs.declared.receipt.Receipt.{Receipt}
use Rattle.lv_edits.specs.declared.receipt.Receipt.TheVariants.{Pushed}
use Rattle.lv_edits.specs.History.{list_of}
use Rattle.lv_machine.specs.declared.moves.Move.TheVariants.{Exchange}
use Rattle.lv_machine.specs.History.{edits_of}
use Rattle.lv_machine.specs.Moves.{verdict_at}
use Rattle.lv_machine.specs.Words.{size_of}
use Rattle.lv_machine.proofs.HistoryLaws.{length-edits_of}
use Rattle.lv_board.specs.Plays.{IsAccepted, IsContended}
use Rattle.lv_board.specs.Rule.{terms_of, limits_of}
use Rattle.lv_board.proofs.Calling.{accepted_before, added_of, contended_looked, helped_quiet, verdict_is}
use Rattle.lv_board.specs.Moved.{help_of}
use Rattle.lv_board.proofs.Moving.{edit_made, edit_refused, exchange_lost, exchange_made}
use Rattle.lv_board.proofs.board.Board.push_short.Goals as goal

pub returns-in-Some-clause-answer : goal.returns-in-Some-clause-answer
returns-in-Some-clause-answer g c =
    let x = to_z-of_z w64 c.args.x c.ranges.x in
    inl (sym (verdict_is (limits_of c.args.self.now.terms) c.args.seat.now.look c.args.seat.now.token.me.0.actor.seen (Push c.args.x) c.args.seat.now.looks.edit c.args.seat.now.looks.size) ∙ ap (λ y. verdict_at (limits_of c.args.self.now.terms) c.args.seat.now.look (Push y)) (sym x) ∙ sym c.verdict.ensures ∙ c.in-Some.is, refl)

pub returns-in-Err-clause-answer : goal.returns-in-Err-clause-answer
returns-in-Err-clause-answer g c =
    let x = to_z-of_z w64 c.args.x c.ranges.x in
    let free = sym (verdict_is (limits_of c.args.self.now.terms) c.args.seat.now.look c.args.seat.now.token.me.0.actor.seen (Push c.args.x) c.args.seat.now.looks.edit c.args.seat.now.looks.size) ∙ ap (λ y. verdict_at (limits_of c.args.self.now.terms) c.args.seat.now.look (Push y)) (sym x) ∙ sym c.verdict.ensures ∙ c.in_default.is in
    let told = subst (λ z. IsContended (terms_of g.B.BoardBody.folding z) c.help.new.seat.token.me.0.actor c.exchange_for.new.seat.token.me.0.actor c.exchange_for.new.seat.look) (c.help.ensures.stays.terms ∙ c.requires.here.terms) c.in-Err.ensures.contended in
    inr (inr (
      contended_looked (terms_of g.B.BoardBody.folding c.args.self.now.terms) c.args.seat.now.token.me.0.actor c.help.new.seat.token.me.0.actor c.exchange_for.new.seat.token.me.0.actor c.exchange_for.new.seat.look (helped_quiet c.args.seat.now.token.me.0.actor c.help.new.seat.token.me.0.actor c.help.ensures.made c.help.ensures.known c.help.ensures.number) told,
      record { refusal_is = c.in-Err.ensures.refusal; all = sym told.sees.all; before = omega (arith, told.later, ap length c.help.ensures.seen); verdict = free },
    ))

pub returns-in-Ok-clause-answer : goal.returns-in-Ok-clause-answer
returns-in-Ok-clause-answer g c =
    let x = to_z-of_z w64 c.args.x c.ranges.x in
    let free = sym (verdict_is (limits_of c.args.self.now.terms) c.args.seat.now.look c.args.seat.now.token.me.0.actor.seen (Push c.args.x) c.args.seat.now.looks.edit c.args.seat.now.looks.size) ∙ ap (λ y. verdict_at (limits_of c.args.self.now.terms) c.args.seat.now.look (Push y)) (sym x) ∙ sym c.verdict.ensures ∙ c.in_default.is in
    let raw = subst (λ z. IsAccepted (terms_of g.B.BoardBody.folding z) c.help.new.seat.token.me.0.actor c.exchange_for.new.seat.token.me.0.actor record { actor = c.help.new.seat.token.me.0.actor.number; edit = Push (cast_signed w64 (cast_unsigned w64 c.args.x)) }) (c.help.ensures.stays.terms ∙ c.requires.here.terms) c.in-Ok.ensures.accepted in
    let told = subst (λ y. IsAccepted (terms_of g.B.BoardBody.folding c.args.self.now.terms) c.help.new.seat.token.me.0.actor c.exchange_for.new.seat.token.me.0.actor record { actor = c.help.new.seat.token.me.0.actor.number; edit = Push y }) x raw in
    let mine = accepted_before (terms_of g.B.BoardBody.folding c.args.self.now.terms) c.args.seat.now.token.me.0.actor c.help.new.seat.token.me.0.actor c.exchange_for.new.seat.token.me.0.actor (Push c.args.x) c.help.ensures.number c.help.ensures.seen c.help.ensures.known c.help.ensures.made told in
    let number : c.in-Ok.edit ≡ length (edits_of c.args.seat.now.token.me.0.actor.seen) + 1 = omega (arith, c.in-Ok.ensures.number, ap length mine.seen, length-edits_of c.args.seat.now.token.me.0.actor.seen) in
    let index : c.size_in-index.result ≡ length (list_of (edits_of c.args.seat.now.token.me.0.actor.seen)) = c.size_in-index.ensures.value ∙ ap size_of c.help.ensures.look ∙ c.args.seat.now.looks.size in
    added_of (terms_of g.B.BoardBody.folding c.args.self.now.terms) c.args.seat.now.token.me.0.actor c.exchange_for.new.seat.token.me.0.actor (Push c.args.x) (Pushed c.in-Ok.edit c.size_in-index.result) mine free (ap (λ n. Pushed n c.size_in-index.result) number ∙ ap (Pushed (length (edits_of c.args.seat.now.token.me.0.actor.seen) + 1)) index)

pub returns-in-Some-clause-moves : goal.returns-in-Some-clause-moves
returns-in-Some-clause-moves g c =
    let x = to_z-of_z w64 c.args.x c.ranges.x in
    let free = sym (verdict_is (limits_of c.args.self.now.terms) c.args.seat.now.look c.args.seat.now.token.me.0.actor.seen (Push c.args.x) c.args.seat.now.looks.edit c.args.seat.now.looks.size) ∙ ap (λ y. verdict_at (limits_of c.args.self.now.terms) c.args.seat.now.look (Push y)) (sym x) ∙ sym c.verdict.ensures ∙ c.in-Some.is in
    let result : Result Receipt Refusal = Err c.in-Some.refusal in
    edit_refused (terms_of g.B.BoardBody.folding c.args.self.now.terms) c.args.seat.now.token.me.0.actor (Push c.args.x) result c.in-Some.refusal c.args.seat.now.token.me.0.moves free

pub returns-in-Err-clause-moves : goal.returns-in-Err-clause-moves
returns-in-Err-clause-moves g c =
    let x = to_z-of_z w64 c.args.x c.ranges.x in
    let free = sym (verdict_is (limits_of c.args.self.now.terms) c.args.seat.now.look c.args.seat.now.token.me.0.actor.seen (Push c.args.x) c.args.seat.now.looks.edit c.args.seat.now.looks.size) ∙ ap (λ y. verdict_at (limits_of c.args.self.now.terms) c.args.seat.now.look (Push y)) (sym x) ∙ sym c.verdict.ensures ∙ c.in_default.is in
    let made = subst (λ y. c.exchange_for.new.seat.token.me.0.moves ≡ Exchange c.help.new.seat.token.me.0.actor.number (Push y) ∷ c.help.new.seat.token.me.0.moves) x c.exchange_for.ensures.moves in
    let ready = help_of c.args.seat.now.token.me.0.actor.number c.args.seat.now.token.me.0.actor.seen in
    let result : Result Receipt Refusal = Err c.in-Err.refusal in
    edit_made (terms_of g.B.BoardBody.folding c.args.self.now.terms) c.args.seat.now.token.me.0.actor (Push c.args.x) result c.args.seat.now.token.me.0.moves c.exchange_for.new.seat.token.me.0.moves free
    (exchange_lost c.args.seat.now.token.me.0.actor.number c.help.new.seat.token.me.0.actor.number (length c.exchange_for.new.seat.token.me.0.actor.seen) (Push c.args.x) c.in-Err.refusal ready c.args.seat.now.token.me.0.moves c.help.new.seat.token.me.0.moves c.exchange_for.new.seat.token.me.0.moves c.in-Err.ensures.refusal c.help.ensures.number c.help.ensures.moves made)

pub returns-in-Ok-clause-moves : goal.returns-in-Ok-clause-moves
returns-in-Ok-clause-moves g c =
    let x = to_z-of_z w64 c.args.x c.ranges.x in
    let free = sym (verdict_is (limits_of c.args.self.now.terms) c.args.seat.now.look c.args.seat.now.token.me.0.actor.seen (Push c.args.x) c.args.seat.now.looks.edit c.args.seat.now.looks.size) ∙ ap (λ y. verdict_at (limits_of c.args.self.now.terms) c.args.seat.now.look (Push y)) (sym x) ∙ sym c.verdict.ensures ∙ c.in_default.is in
    let made = subst (λ y. c.exchange_for.new.seat.token.me.0.moves ≡ Exchange c.help.new.seat.token.me.0.actor.number (Push y) ∷ c.help.new.seat.token.me.0.moves) x c.exchange_for.ensures.moves in
    let ready = help_of c.args.seat.now.token.me.0.actor.number c.args.seat.now.token.me.0.actor.seen in
    let result : Result Receipt Refusal = Ok (Pushed c.in-Ok.edit c.size_in-index.result) in
    edit_made (terms_of g.B.BoardBody.folding c.args.self.now.terms) c.args.seat.now.token.me.0.actor (Push c.args.x) result c.args.seat.now.token.me.0.moves c.exchange_for.new.seat.token.me.0.moves free
    (exchange_made c.args.seat.now.token.me.0.actor.number c.help.new.seat.token.me.0.actor.number (Push c.args.x) ready c.args.seat.now.token.me.0.moves c.help.new.seat.token.me.0.moves c.exchange_for.new.seat.token.me.0.moves c.help.ensures.number c.help.ensures.moves made)
