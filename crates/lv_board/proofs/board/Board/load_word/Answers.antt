-- Proof of `Board::load_word`: loads another word.
use Rattle.std.proofs.Common.{◌<◌, sym, ap, ◌∙◌, subst}
use Rattle.lv_machine.specs.Layout.{count_of}
use Rattle.lv_board.specs.Rule.{limits_of}
use Rattle.lv_board.proofs.board.Board.load_word.Goals as goal

pub load_word-requires-clause-key : goal.load_word-requires-clause-key
load_word-requires-clause-key g c = λ _ _. c.args.self.now.key ∙ sym c.requires.here.terms

pub load_word-requires-clause-count : goal.load_word-requires-clause-count
load_word-requires-clause-count g c = λ _ _. c.args.self.now.count ∙ ap (λ z. count_of (limits_of z)) (sym c.requires.here.terms)

pub load_word-requires-clause-within : goal.load_word-requires-clause-within
load_word-requires-clause-within g c = λ _ _. subst (λ z. c.args.at < count_of (limits_of z)) (sym c.requires.here.terms) c.requires.within
