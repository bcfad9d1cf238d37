-- Proof of `Board::install`: installs a part of the aggregate of a block that is full as the seat sees it.
use Rattle.std.proofs.Common.{◌≡◌, ◌*◌, ◌<◌, sym, ap, ◌∙◌, subst}
use Rattle.lv_edits.specs.Touch.{elements_under}
use Rattle.lv_geometry.specs.Cells.{capacity_of}
use Rattle.lv_machine.specs.History.{edits_of}
use Rattle.lv_machine.specs.Layout.{count_of}
use Rattle.lv_machine.specs.Shows.{block, mark_of}
use Rattle.lv_machine.specs.Words.{part_word}
use Rattle.lv_board.specs.Rule.{terms_of, limits_of}
use Rattle.lv_board.proofs.board.Board.install.Goals as goal

pub install-requires-clause-key : goal.install-requires-clause-key
install-requires-clause-key g c = λ _ _. c.args.self.now.key ∙ sym c.requires.here.terms

pub install-requires-clause-count : goal.install-requires-clause-count
install-requires-clause-count g c = λ _ _. c.args.self.now.count ∙ ap (λ z. count_of (limits_of z)) (sym c.requires.here.terms)

pub install-requires-clause-within : goal.install-requires-clause-within
install-requires-clause-within g c = λ _ _. subst (λ z. 8 * c.args.b < capacity_of z.buckets) (sym c.requires.here.terms) c.requires.within

pub install-requires-clause-word : goal.install-requires-clause-word
install-requires-clause-word g c = λ _ _.
    let h = c.args.seat.now.token.me.0.actor.seen in
    subst (λ z. c.args.word ≡ part_word (mark_of c.args.b h) ((terms_of g.B.BoardBody.folding z).folding.part c.args.part (elements_under (edits_of h) (block c.args.b)))) (sym c.requires.here.terms) c.requires.word
