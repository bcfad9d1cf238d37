-- Loop invariants of `Board::load_parts`: the parts of a full block's aggregate, if each has the version of the block's mark.
use Rattle.lv_board.specs.Rule.{terms_of}
use Rattle.lv_board.specs.Tells.{actor_of, IsAt}
use Rattle.lv_board.specs.Walks.{block_fold, HasRead, MayRead}
use Rattle.lv_board.proofs.board.Board.load_parts.Given as goal
use Rattle.lv_board.proofs.Walking.{AreTaken}

-- the parts before the next one were loaded, and the seat sees what it saw
abbrev pub invariant-loop-part : goal.invariant-loop-part
invariant-loop-part g l = record {
  here : IsAt l.self.table.shared.table_id l.self.terms l.seat;
  may : MayRead (terms_of g.B.BoardBody.folding l.self.terms) l.seat;
  read : HasRead l.part l.fn.seat l.seat;
  taken : AreTaken g.B.Parted.parts_of (block_fold (g.B.Body.operations l.self.terms.body) l.b (actor_of l.fn.seat).seen) l.part l.values;
}
