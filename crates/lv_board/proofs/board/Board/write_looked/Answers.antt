-- Proof of `Board::write_looked`: overwrites the element at `index`, if no update came since the seat looked.
use Rattle.std.proofs.Common.{refl, subst}
use Rattle.std.specs.Int.{w64}
use Rattle.std.proofs.lemmas.Int.{to_z-of_z}
use Rattle.lv_edits.specs.declared.edit.Edit.TheVariants.{Write}
use Rattle.lv_board.specs.Calls.{LookedAnswers}
use Rattle.lv_board.specs.Moved.{edit_moves, HasMovedBy}
use Rattle.lv_board.specs.Rule.{terms_of}
use Rattle.lv_board.proofs.Shorts.{fits, too_wide}
use Rattle.lv_board.proofs.board.Board.write_looked.Goals as goal

pub returns-clause-short : goal.returns-clause-short
returns-clause-short g c = λ _. subst (λ y. LookedAnswers (terms_of g.B.BoardBody.folding c.args.self.now.terms) c.args.seat.now.token.me.0.actor c.write_short.new.seat.token.me.0.actor (Write c.args.index y) c.write_short.result) (to_z-of_z w64 c.args.value c.ranges.value) c.write_short.ensures.answer

pub returns-then-not-fits_short-clause-stays : goal.returns-then-not-fits_short-clause-stays
returns-then-not-fits_short-clause-stays g c = record { table = refl; terms = refl }

pub returns-then-not-fits_short-clause-short : goal.returns-then-not-fits_short-clause-short
returns-then-not-fits_short-clause-short g c = λ short. absurd (too_wide c.args.value _ c.fits_short.result (to_z-of_z w64 c.args.value c.ranges.value) c.fits_short.ensures c.if-not-fits_short.true short)

pub returns-then-not-fits_short-clause-wide : goal.returns-then-not-fits_short-clause-wide
returns-then-not-fits_short-clause-wide g c = λ _. (refl, record { stays = record { table = refl; terms = refl }; look = refl; actor = refl; moves = refl })

pub write_short-requires-clause-here : goal.write_short-requires-clause-here
write_short-requires-clause-here g c = λ _ _. c.requires

pub write_short-requires-clause-short : goal.write_short-requires-clause-short
write_short-requires-clause-short g c = λ _ _. fits _ _ c.fits_short.result refl c.fits_short.ensures c.if-not-fits_short.false

pub returns-clause-stays : goal.returns-clause-stays
returns-clause-stays g c = c.write_short.ensures.stays

pub returns-clause-wide : goal.returns-clause-wide
returns-clause-wide g c = λ wide. absurd (wide (fits c.args.value _ c.fits_short.result (to_z-of_z w64 c.args.value c.ranges.value) c.fits_short.ensures c.if-not-fits_short.false))

pub returns-clause-moves : goal.returns-clause-moves
returns-clause-moves g c = λ _. subst (λ y. HasMovedBy (edit_moves (terms_of g.B.BoardBody.folding c.args.self.now.terms) c.args.seat.now.token.me.0.actor (Write c.args.index y) c.write_short.result) c.args.seat.now c.write_short.new.seat) (to_z-of_z w64 c.args.value c.ranges.value) c.write_short.ensures.moves

pub returns-then-not-fits_short-clause-moves : goal.returns-then-not-fits_short-clause-moves
returns-then-not-fits_short-clause-moves g c = λ short. absurd (too_wide c.args.value _ c.fits_short.result (to_z-of_z w64 c.args.value c.ranges.value) c.fits_short.ensures c.if-not-fits_short.true short)
