-- Loop invariants of `Board::walk_cells`: proceeds by cells to an index.
use Rattle.std.specs.Prelude.{◌≡◌, ℕ, ◌+◌, ◌-◌, ◌≤◌}
use Rattle.lv_board.specs.Rule.{terms_of}
use Rattle.lv_board.specs.Tells.{actor_of, IsAt}
use Rattle.lv_board.specs.Walks.{HasRead, loads_in, MayRead, Sums}
use Rattle.lv_board.proofs.board.Board.walk_cells.Given as goal

-- the walk has reached this index, and the seat sees what it saw
abbrev pub invariant-loop-walk : goal.invariant-loop-walk
invariant-loop-walk g l = record {
  here : IsAt l.self.table.shared.table_id l.self.terms l.seat;
  may : MayRead (terms_of g.B.BoardBody.folding l.self.terms) l.seat;
  loads : ℕ;
  read : HasRead loads l.fn.seat l.seat;
  each : l.walk.at ≡ l.fn.walk.at + loads;
  counted : loads_in g.B.Parted.PARTS l.walk ≡ loads_in g.B.Parted.PARTS l.fn.walk + loads;
  from : l.walk.lo ≡ l.fn.walk.lo;
  most : l.walk.at ≤ l.end;
  sums : Sums (g.B.Body.operations l.self.terms.body) (actor_of l.fn.seat).seen l.walk;
}

-- the rest of the way
abbrev pub decreases-loop-walk : goal.decreases-loop-walk
decreases-loop-walk g l = l.end - l.walk.at
