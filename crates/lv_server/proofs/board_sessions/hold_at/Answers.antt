-- Proof of `hold_at`: runs the sessions at a board with this monoid instance.
use Rattle.std.proofs.Common.{◌≡◌}
use Rattle.lv_board.specs.Rule.{newcomer}
use Rattle.lv_board.specs.Tells.{IsAt, actor_of}
use Rattle.lv_server.proofs.Seats.{each_found}
use Rattle.lv_server.proofs.board_sessions.hold_at.Goals as goal

pub hold_all-ended-requires-clause-here : goal.hold_all-ended-requires-clause-here
hold_all-ended-requires-clause-here g c κs within =
    each_found (IsAt c.in-Ok-new.board.table.shared.table_id c.in-Ok-new.board.terms)
    (λ k s. IsAt c.in-Ok-new.board.table.shared.table_id c.in-Ok-new.board.terms s × (actor_of s ≡ newcomer k))
    (λ k s dealt. dealt.0) c.in-Ok-new.seats.items c.in-Ok-new.ensures.dealt
