-- Proof of `Board::write_short`: overwrites the element at an index by one of 16 bits, from the look that the seat has.
use Rattle.std.proofs.Common.{rules, ◌≡◌, ◌∷◌, ◌+◌, Some, None, Ok, Err, length, refl, sym, ap, ◌∙◌, subst, inl, arith, Result}
use Rattle.std.specs.Int.{w64, cast_signed, cast_unsigned}
use Rattle.std.proofs.lemmas.Int.{to_z-of_z}
use Rattle.lv_geometry.proofs.Capacities.{capacity_of_mono}
use Rattle.lv_edits.specs.declared.edit.Edit.TheVariants.{Write}
use Rattle.lv_geometry.specs.declared.refusals.Refusal.{Refusal}
use Rattle.lv_edits.specs.declared.receipt.Receipt.{Receipt}
use Rattle.lv_edits.specs.declared.receipt.Receipt.TheVariants.{Written}
use Rattle.lv_edits.specs.History.{list_of}
use Rattle.lv_edits.proofs.HistoryLaws.{not_refused, unrefused_write}
use Rattle.lv_machine.specs.declared.moves.Move.TheVariants.{Read}
use Rattle.lv_machine.specs.History.{edits_of}
use Rattle.lv_machine.specs.Moves.{verdict_at}
use Rattle.lv_machine.proofs.HistoryLaws.{length-edits_of}
use Rattle.lv_board.specs.Steps.{TakeAnswers}
use Rattle.lv_board.specs.Rule.{terms_of, limits_of}
use Rattle.lv_board.proofs.Calling.{looked_of_taken, looked_of_untaken, verdict_is}
use Rattle.lv_board.specs.Moved.{exchanging, HasMovedBy, help_of}
use Rattle.lv_board.proofs.Moving.{edit_made, edit_refused}
use Rattle.lv_board.proofs.board.Board.write_short.Goals as goal

pub returns-in-Some-clause-answer : goal.returns-in-Some-clause-answer
returns-in-Some-clause-answer g c =
    let x = to_z-of_z w64 c.args.value c.ranges.value in
    inl (sym (verdict_is (limits_of c.args.self.now.terms) c.args.seat.now.look c.args.seat.now.token.me.0.actor.seen (Write c.args.index c.args.value) c.args.seat.now.looks.edit c.args.seat.now.looks.size) ∙ ap (λ y. verdict_at (limits_of c.args.self.now.terms) c.args.seat.now.look (Write c.args.index y)) (sym x) ∙ sym c.verdict.ensures ∙ c.in-Some.is, refl)

pub take_for-requires-clause-index : goal.take_for-requires-clause-index
take_for-requires-clause-index g c = λ _ _.
    let free = sym (verdict_is (limits_of c.args.self.now.terms) c.args.seat.now.look c.args.seat.now.token.me.0.actor.seen (Write c.args.index (cast_signed w64 (cast_unsigned w64 c.args.value))) c.args.seat.now.looks.edit c.args.seat.now.looks.size) ∙ sym c.verdict.ensures ∙ c.in_default.is in
    let within = unrefused_write (limits_of c.args.self.now.terms) (list_of (edits_of c.args.seat.now.token.me.0.actor.seen)) c.args.index (cast_signed w64 (cast_unsigned w64 c.args.value)) (not_refused (limits_of c.args.self.now.terms) (edits_of c.args.seat.now.token.me.0.actor.seen) (Write c.args.index (cast_signed w64 (cast_unsigned w64 c.args.value))) free).1 in
    let few = c.args.seat.now.looks.few_cells in
    let most = capacity_of_mono c.args.seat.now.terms.buckets 9 c.args.seat.now.basis.few_buckets in
    omega (arith, c.args.seat.now.looks.size)

pub returns-in-Err-clause-answer : goal.returns-in-Err-clause-answer
returns-in-Err-clause-answer g c =
    let x = to_z-of_z w64 c.args.value c.ranges.value in
    let free = sym (verdict_is (limits_of c.args.self.now.terms) c.args.seat.now.look c.args.seat.now.token.me.0.actor.seen (Write c.args.index c.args.value) c.args.seat.now.looks.edit c.args.seat.now.looks.size) ∙ ap (λ y. verdict_at (limits_of c.args.self.now.terms) c.args.seat.now.look (Write c.args.index y)) (sym x) ∙ sym c.verdict.ensures ∙ c.in_default.is in
    let untaken = subst (λ y. TakeAnswers (terms_of g.B.BoardBody.folding c.args.self.now.terms) c.args.seat.now.token.me.0.actor c.take_for.new.seat.token.me.0.actor (Write c.args.index y) c.args.index (Err c.in-Err.refusal)) x c.in-Err.ensures.answer in
    looked_of_untaken (terms_of g.B.BoardBody.folding c.args.self.now.terms) c.args.seat.now.token.me.0.actor c.take_for.new.seat.token.me.0.actor (Write c.args.index c.args.value) c.args.index c.in-Err.refusal tt free untaken

pub returns-in-Ok-clause-answer : goal.returns-in-Ok-clause-answer
returns-in-Ok-clause-answer g c =
    let x = to_z-of_z w64 c.args.value c.ranges.value in
    let free = sym (verdict_is (limits_of c.args.self.now.terms) c.args.seat.now.look c.args.seat.now.token.me.0.actor.seen (Write c.args.index c.args.value) c.args.seat.now.looks.edit c.args.seat.now.looks.size) ∙ ap (λ y. verdict_at (limits_of c.args.self.now.terms) c.args.seat.now.look (Write c.args.index y)) (sym x) ∙ sym c.verdict.ensures ∙ c.in_default.is in
    let taken : TakeAnswers (terms_of g.B.BoardBody.folding c.args.self.now.terms) c.args.seat.now.token.me.0.actor c.take_for.new.seat.token.me.0.actor (Write c.args.index c.args.value) c.args.index (Ok (c.in-Ok.edit, c.in-Ok.before)) = subst (λ y. TakeAnswers (terms_of g.B.BoardBody.folding c.args.self.now.terms) c.args.seat.now.token.me.0.actor c.take_for.new.seat.token.me.0.actor (Write c.args.index y) c.args.index (Ok (c.in-Ok.edit, c.in-Ok.before))) x c.in-Ok.ensures.answer in
    let (u, quiet, same, told, number, value) = taken in
    let edit : c.in-Ok.edit ≡ length (edits_of c.args.seat.now.token.me.0.actor.seen) + 1 = omega (arith, number, ap length told.seen, ap length same, length-edits_of c.args.seat.now.token.me.0.actor.seen) in
    looked_of_taken (terms_of g.B.BoardBody.folding c.args.self.now.terms) c.args.seat.now.token.me.0.actor c.take_for.new.seat.token.me.0.actor (Write c.args.index c.args.value) c.args.index (c.in-Ok.edit, c.in-Ok.before) (Written c.in-Ok.edit (cast_signed w64 (cast_unsigned w64 c.in-Ok.before))) free taken
    (ap (λ n. Written n (cast_signed w64 (cast_unsigned w64 c.in-Ok.before))) edit ∙ ap (Written (length (edits_of c.args.seat.now.token.me.0.actor.seen) + 1)) (to_z-of_z w64 c.in-Ok.before (search rules) ∙ value))

pub returns-in-Some-clause-moves : goal.returns-in-Some-clause-moves
returns-in-Some-clause-moves g c =
    let x = to_z-of_z w64 c.args.value c.ranges.value in
    let free = sym (verdict_is (limits_of c.args.self.now.terms) c.args.seat.now.look c.args.seat.now.token.me.0.actor.seen (Write c.args.index c.args.value) c.args.seat.now.looks.edit c.args.seat.now.looks.size) ∙ ap (λ y. verdict_at (limits_of c.args.self.now.terms) c.args.seat.now.look (Write c.args.index y)) (sym x) ∙ sym c.verdict.ensures ∙ c.in-Some.is in
    let result : Result Receipt Refusal = Err c.in-Some.refusal in
    edit_refused (terms_of g.B.BoardBody.folding c.args.self.now.terms) c.args.seat.now.token.me.0.actor (Write c.args.index c.args.value) result c.in-Some.refusal c.args.seat.now.token.me.0.moves free

pub returns-in-Err-clause-moves : goal.returns-in-Err-clause-moves
returns-in-Err-clause-moves g c =
    let x = to_z-of_z w64 c.args.value c.ranges.value in
    let free = sym (verdict_is (limits_of c.args.self.now.terms) c.args.seat.now.look c.args.seat.now.token.me.0.actor.seen (Write c.args.index c.args.value) c.args.seat.now.looks.edit c.args.seat.now.looks.size) ∙ ap (λ y. verdict_at (limits_of c.args.self.now.terms) c.args.seat.now.look (Write c.args.index y)) (sym x) ∙ sym c.verdict.ensures ∙ c.in_default.is in
    let made = subst (λ y. HasMovedBy (exchanging c.args.seat.now.token.me.0.actor.number (Write c.args.index y) (Read c.args.seat.now.token.me.0.actor.number ∷ help_of c.args.seat.now.token.me.0.actor.number c.args.seat.now.token.me.0.actor.seen) (Some c.in-Err.refusal)) c.args.seat.now c.take_for.new.seat) x c.in-Err.ensures.moves in
    let result : Result Receipt Refusal = Err c.in-Err.refusal in
    edit_made (terms_of g.B.BoardBody.folding c.args.self.now.terms) c.args.seat.now.token.me.0.actor (Write c.args.index c.args.value) result c.args.seat.now.token.me.0.moves c.take_for.new.seat.token.me.0.moves free made

pub returns-in-Ok-clause-moves : goal.returns-in-Ok-clause-moves
returns-in-Ok-clause-moves g c =
    let x = to_z-of_z w64 c.args.value c.ranges.value in
    let free = sym (verdict_is (limits_of c.args.self.now.terms) c.args.seat.now.look c.args.seat.now.token.me.0.actor.seen (Write c.args.index c.args.value) c.args.seat.now.looks.edit c.args.seat.now.looks.size) ∙ ap (λ y. verdict_at (limits_of c.args.self.now.terms) c.args.seat.now.look (Write c.args.index y)) (sym x) ∙ sym c.verdict.ensures ∙ c.in_default.is in
    let made = subst (λ y. HasMovedBy (exchanging c.args.seat.now.token.me.0.actor.number (Write c.args.index y) (Read c.args.seat.now.token.me.0.actor.number ∷ help_of c.args.seat.now.token.me.0.actor.number c.args.seat.now.token.me.0.actor.seen) None) c.args.seat.now c.take_for.new.seat) x c.in-Ok.ensures.moves in
    let result : Result Receipt Refusal = Ok (Written c.in-Ok.edit (cast_signed w64 (cast_unsigned w64 c.in-Ok.before))) in
    edit_made (terms_of g.B.BoardBody.folding c.args.self.now.terms) c.args.seat.now.token.me.0.actor (Write c.args.index c.args.value) result c.args.seat.now.token.me.0.moves c.take_for.new.seat.token.me.0.moves free made
