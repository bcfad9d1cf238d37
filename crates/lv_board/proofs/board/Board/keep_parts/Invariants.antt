-- Loop invariants of `Board::keep_parts`: installs the parts of a full block's aggregate, with the block's mark as their version.
use Rattle.lv_board.specs.Rule.{terms_of}
use Rattle.lv_board.specs.Tells.{actor_of, IsAt}
use Rattle.lv_board.specs.Moved.{HasMovedBy, installs_of}
use Rattle.lv_board.specs.Steps.{HasInstalled}
use Rattle.lv_board.specs.Walks.{block_installed}
use Rattle.lv_board.proofs.board.Board.keep_parts.Given as goal

-- the parts up to there were installed
abbrev pub invariant-loop-part : goal.invariant-loop-part
invariant-loop-part g l = record {
  here : IsAt l.self.table.shared.table_id l.self.terms l.seat;
  installed : HasInstalled (block_installed (terms_of g.B.BoardBody.folding l.self.terms) l.b (actor_of l.fn.seat).seen l.part (actor_of l.fn.seat).installed) l.fn.seat l.seat;
  moves : HasMovedBy (installs_of (terms_of g.B.BoardBody.folding l.self.terms) (actor_of l.fn.seat).number l.b (actor_of l.fn.seat).seen l.part) l.fn.seat l.seat;
}
