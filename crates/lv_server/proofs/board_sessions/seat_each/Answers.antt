-- Proof of `seat_each`: gives each session a seat.
use Rattle.lv_board.specs.Tells.{IsAt}
use Rattle.lv_server.proofs.Seats.{each_popped}
use Rattle.lv_server.proofs.board_sessions.seat_each.Goals as goal

pub invariant_of-task : goal.invariant_of-task
invariant_of-task g c = record {
  here = (each_popped (IsAt c.args.board.now.table.shared.table_id c.args.board.now.terms) _ _ c.in-Some-pop.seat (rw c.in-Some-pop.is at c.pop.ensures.items) c.loop-streams.invariant.2).0;
}

pub loop-streams-preserved : goal.loop-streams-preserved
loop-streams-preserved g c =
    (tt, tt, (each_popped (IsAt c.args.board.now.table.shared.table_id c.args.board.now.terms) _ _ c.in-Some-pop.seat (rw c.in-Some-pop.is at c.pop.ensures.items) c.loop-streams.invariant.2).1)
