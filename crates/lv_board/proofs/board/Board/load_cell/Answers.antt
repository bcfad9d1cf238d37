-- Proof of `Board::load_cell`: the element in a cell, as the seat sees it, or the later update that has since written there.
use Rattle.std.proofs.Common.{◌<◌, sym, ap, ◌∙◌, subst}
use Rattle.lv_geometry.specs.Cells.{capacity_of}
use Rattle.lv_machine.specs.Layout.{count_of}
use Rattle.lv_board.specs.Rule.{terms_of, limits_of}
use Rattle.lv_board.specs.Steps.{IsCellTaken}
use Rattle.lv_board.proofs.board.Board.load_cell.Goals as goal

pub load_cell-requires-clause-key : goal.load_cell-requires-clause-key
load_cell-requires-clause-key g c = λ _ _. c.args.self.now.key ∙ sym c.requires.here.terms

pub load_cell-requires-clause-count : goal.load_cell-requires-clause-count
load_cell-requires-clause-count g c = λ _ _. c.args.self.now.count ∙ ap (λ z. count_of (limits_of z)) (sym c.requires.here.terms)

pub load_cell-requires-clause-within : goal.load_cell-requires-clause-within
load_cell-requires-clause-within g c = λ _ _. subst (λ z. c.args.i < capacity_of z.buckets) (sym c.requires.here.terms) c.requires.within

pub returns : goal.returns
returns g c = subst (λ z. IsCellTaken (terms_of g.B.BoardBody.folding z) c.args.i c.load_cell.result c.args.seat.now c.load_cell.new.seat) c.requires.here.terms c.load_cell.ensures
