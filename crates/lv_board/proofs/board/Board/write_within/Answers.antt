-- Proof of `Board::write_within`: does what `try_write` does, and tries again while it is refused with `Contended`, from the descriptor that was
-- found then, or with `Overtaken`, after a new look.
use Rattle.std.proofs.Common.{refl, subst}
use Rattle.std.specs.Int.{w64}
use Rattle.std.proofs.lemmas.Int.{to_z-of_z}
use Rattle.lv_edits.specs.declared.edit.Edit.TheVariants.{Write}
use Rattle.lv_board.specs.Retrying.{AnswersWithin}
use Rattle.lv_board.specs.Rule.{terms_of}
use Rattle.lv_board.proofs.Shorts.{fits, too_wide}
use Rattle.lv_board.proofs.board.Board.write_within.Goals as goal

pub returns-clause-short : goal.returns-clause-short
returns-clause-short g c = λ _. subst (λ y. AnswersWithin (terms_of g.B.BoardBody.folding c.args.self.now.terms) c.args.tries c.args.seat.now.token.me.0.actor c.edit_within.new.seat.token.me.0.actor (Write c.args.index y) c.edit_within.result) (to_z-of_z w64 c.args.value c.ranges.value) c.edit_within.ensures.answer

pub returns-then-not-fits_short-clause-still : goal.returns-then-not-fits_short-clause-still
returns-then-not-fits_short-clause-still g c = record { stays = record { table = refl; terms = refl }; number = refl }

pub returns-then-not-fits_short-clause-short : goal.returns-then-not-fits_short-clause-short
returns-then-not-fits_short-clause-short g c = λ short. absurd (too_wide c.args.value _ c.fits_short.result (to_z-of_z w64 c.args.value c.ranges.value) c.fits_short.ensures c.if-not-fits_short.true short)

pub returns-then-not-fits_short-clause-wide : goal.returns-then-not-fits_short-clause-wide
returns-then-not-fits_short-clause-wide g c = λ _. (refl, record { stays = record { table = refl; terms = refl }; look = refl; actor = refl; moves = refl })

pub edit_within-requires-clause-here : goal.edit_within-requires-clause-here
edit_within-requires-clause-here g c = λ _ _. c.requires.here

pub edit_within-requires-clause-short : goal.edit_within-requires-clause-short
edit_within-requires-clause-short g c = λ _ _. fits _ _ c.fits_short.result refl c.fits_short.ensures c.if-not-fits_short.false

pub edit_within-requires-clause-some : goal.edit_within-requires-clause-some
edit_within-requires-clause-some g c = λ _ _. c.requires.some

pub returns-clause-still : goal.returns-clause-still
returns-clause-still g c = c.edit_within.ensures.still

pub returns-clause-wide : goal.returns-clause-wide
returns-clause-wide g c = λ wide. absurd (wide (fits c.args.value _ c.fits_short.result (to_z-of_z w64 c.args.value c.ranges.value) c.fits_short.ensures c.if-not-fits_short.false))
