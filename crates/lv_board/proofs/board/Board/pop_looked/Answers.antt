-- Proof of `Board::pop_looked`: drops the last element, if no update came since the seat looked.
use Rattle.std.proofs.Common.{rules, ◌≡◌, pos, ◌+◌, ◌-◌, Ok, Err, length, refl, sym, ap, ◌∙◌, inl, arith, Result}
use Rattle.std.specs.Int.{w64, cast_signed, cast_unsigned}
use Rattle.std.specs.List.{slice_index_or}
use Rattle.std.proofs.lemmas.Int.{to_z-of_z}
use Rattle.lv_edits.specs.declared.edit.Edit.TheVariants.{Pop}
use Rattle.lv_geometry.specs.declared.refusals.Refusal.{Refusal}
use Rattle.lv_edits.specs.declared.receipt.Receipt.{Receipt}
use Rattle.lv_edits.specs.declared.receipt.Receipt.TheVariants.{Popped}
use Rattle.lv_edits.specs.History.{list_of}
use Rattle.lv_machine.specs.History.{edits_of}
use Rattle.lv_machine.proofs.HistoryLaws.{length-edits_of}
use Rattle.lv_board.specs.Steps.{TakeAnswers}
use Rattle.lv_board.specs.Rule.{terms_of, limits_of}
use Rattle.lv_board.proofs.Calling.{looked_of_taken, looked_of_untaken, verdict_is}
use Rattle.lv_board.proofs.Moving.{edit_made, edit_refused}
use Rattle.lv_board.proofs.board.Board.pop_looked.Goals as goal

pub returns-in-Some-clause-answer : goal.returns-in-Some-clause-answer
returns-in-Some-clause-answer g c = inl (sym (verdict_is (limits_of c.args.self.now.terms) c.args.seat.now.look c.args.seat.now.token.me.0.actor.seen Pop c.args.seat.now.looks.edit c.args.seat.now.looks.size) ∙ sym c.verdict.ensures ∙ c.in-Some.is, refl)

pub returns-in-Err-clause-answer : goal.returns-in-Err-clause-answer
returns-in-Err-clause-answer g c =
    let free = sym (verdict_is (limits_of c.args.self.now.terms) c.args.seat.now.look c.args.seat.now.token.me.0.actor.seen Pop c.args.seat.now.looks.edit c.args.seat.now.looks.size) ∙ sym c.verdict.ensures ∙ c.in_default.is in
    looked_of_untaken (terms_of g.B.BoardBody.folding c.args.self.now.terms) c.args.seat.now.token.me.0.actor c.take_for.new.seat.token.me.0.actor Pop (c.size_in-last.result - 1) c.in-Err.refusal tt free c.in-Err.ensures.answer

pub returns-in-Ok-clause-answer : goal.returns-in-Ok-clause-answer
returns-in-Ok-clause-answer g c =
    let free = sym (verdict_is (limits_of c.args.self.now.terms) c.args.seat.now.look c.args.seat.now.token.me.0.actor.seen Pop c.args.seat.now.looks.edit c.args.seat.now.looks.size) ∙ sym c.verdict.ensures ∙ c.in_default.is in
    let taken : TakeAnswers (terms_of g.B.BoardBody.folding c.args.self.now.terms) c.args.seat.now.token.me.0.actor c.take_for.new.seat.token.me.0.actor Pop (c.size_in-last.result - 1) (Ok (c.in-Ok.edit, c.in-Ok.value)) = c.in-Ok.ensures.answer in
    let (u, quiet, same, told, number, value) = taken in
    let last : c.size_in-last.result ≡ length (list_of (edits_of c.args.seat.now.token.me.0.actor.seen)) = c.size_in-last.ensures.value ∙ c.args.seat.now.looks.size in
    let edit : c.in-Ok.edit ≡ length (edits_of c.args.seat.now.token.me.0.actor.seen) + 1 = omega (arith, number, ap length told.seen, ap length same, length-edits_of c.args.seat.now.token.me.0.actor.seen) in
    looked_of_taken (terms_of g.B.BoardBody.folding c.args.self.now.terms) c.args.seat.now.token.me.0.actor c.take_for.new.seat.token.me.0.actor Pop (c.size_in-last.result - 1) (c.in-Ok.edit, c.in-Ok.value) (Popped c.in-Ok.edit (cast_signed w64 (cast_unsigned w64 c.in-Ok.value))) free taken
    (ap (λ n. Popped n (cast_signed w64 (cast_unsigned w64 c.in-Ok.value))) edit ∙ ap (Popped (length (edits_of c.args.seat.now.token.me.0.actor.seen) + 1)) (to_z-of_z w64 c.in-Ok.value (search rules) ∙ value ∙ ap (λ n. slice_index_or (list_of (edits_of c.args.seat.now.token.me.0.actor.seen)) (n - 1) (pos 0)) last))

pub returns-in-Some-clause-moves : goal.returns-in-Some-clause-moves
returns-in-Some-clause-moves g c =
    let free = sym (verdict_is (limits_of c.args.self.now.terms) c.args.seat.now.look c.args.seat.now.token.me.0.actor.seen Pop c.args.seat.now.looks.edit c.args.seat.now.looks.size) ∙ sym c.verdict.ensures ∙ c.in-Some.is in
    let result : Result Receipt Refusal = Err c.in-Some.refusal in
    edit_refused (terms_of g.B.BoardBody.folding c.args.self.now.terms) c.args.seat.now.token.me.0.actor Pop result c.in-Some.refusal c.args.seat.now.token.me.0.moves free

pub returns-in-Err-clause-moves : goal.returns-in-Err-clause-moves
returns-in-Err-clause-moves g c =
    let free = sym (verdict_is (limits_of c.args.self.now.terms) c.args.seat.now.look c.args.seat.now.token.me.0.actor.seen Pop c.args.seat.now.looks.edit c.args.seat.now.looks.size) ∙ sym c.verdict.ensures ∙ c.in_default.is in
    let result : Result Receipt Refusal = Err c.in-Err.refusal in
    edit_made (terms_of g.B.BoardBody.folding c.args.self.now.terms) c.args.seat.now.token.me.0.actor Pop result c.args.seat.now.token.me.0.moves c.take_for.new.seat.token.me.0.moves free c.in-Err.ensures.moves

pub returns-in-Ok-clause-moves : goal.returns-in-Ok-clause-moves
returns-in-Ok-clause-moves g c =
    let free = sym (verdict_is (limits_of c.args.self.now.terms) c.args.seat.now.look c.args.seat.now.token.me.0.actor.seen Pop c.args.seat.now.looks.edit c.args.seat.now.looks.size) ∙ sym c.verdict.ensures ∙ c.in_default.is in
    let result : Result Receipt Refusal = Ok (Popped c.in-Ok.edit (cast_signed w64 (cast_unsigned w64 c.in-Ok.value))) in
    edit_made (terms_of g.B.BoardBody.folding c.args.self.now.terms) c.args.seat.now.token.me.0.actor Pop result c.args.seat.now.token.me.0.moves c.take_for.new.seat.token.me.0.moves free c.in-Ok.ensures.moves
