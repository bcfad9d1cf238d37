-- Proof of `hold_all`: runs the sessions at a board, with its seats.
use Rattle.std.proofs.iter.Serving.{serving}
use Rattle.lv_server.proofs.board_sessions.hold_all.Goals as goal

-- what a task has may go to its thread, and what it lends may be seen there
pub for_each_mut-requires-clause-accepts : goal.for_each_mut-requires-clause-accepts
for_each_mut-requires-clause-accepts g c κs within = λ i p inside is. (
  c.type_bounds.send-B,
  record { owned = c.type_bounds.send-F.owned; leaving = grind serving },
  record { owned = c.type_bounds.send-B-S.owned; leaving = grind serving },
  c.type_bounds.sync-B,
  record { shared = c.type_bounds.sync-B-S.shared },
)
