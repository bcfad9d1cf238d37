-- Loop invariants of `seat_each`: gives each session a seat.
use Rattle.std.specs.Prelude.{All}
use Rattle.lv_board.specs.Tells.{IsAt}
use Rattle.lv_server.proofs.board_sessions.seat_each.Given as goal

abbrev pub invariant-loop-streams : goal.invariant-loop-streams
invariant-loop-streams g l =
    (goal.iterator-loop-streams g).can_next l.streams-iterator ×
    (goal.iterator-loop-streams g).is_finite l.streams-iterator ×
    All (IsAt l.fn.board.table.shared.table_id l.fn.board.terms) l.seats.items
