-- Proof of `Board::load_descriptor`: loads the descriptor, which becomes the seat's look.
use Rattle.std.proofs.Common.{sym, ap, ◌∙◌}
use Rattle.lv_machine.specs.Layout.{count_of}
use Rattle.lv_board.specs.Rule.{limits_of}
use Rattle.lv_board.proofs.board.Board.load_descriptor.Goals as goal

pub load_descriptor-requires-clause-key : goal.load_descriptor-requires-clause-key
load_descriptor-requires-clause-key g c = λ _ _. c.args.self.now.key ∙ sym c.requires.terms

pub load_descriptor-requires-clause-count : goal.load_descriptor-requires-clause-count
load_descriptor-requires-clause-count g c = λ _ _. c.args.self.now.count ∙ ap (λ z. count_of (limits_of z)) (sym c.requires.terms)
