-- Proof of `hold`: runs a session with a seat.
use Rattle.std.proofs.Common.{rules}
use Rattle.lv_board.proofs.Sittings.{ended_as}
use Rattle.lv_board.proofs.sessions.hold.Goals as goal

pub returns-clause-stays : goal.returns-clause-stays
returns-clause-stays g c =
    (ended_as g.B.SeatedAs.seat_of g.A.Answerer.does g.B.BoardBody.folding g.B.Body.operations g.B.Single.the_kind g.B.Single.shown_as _ _ c.requires.right _ _ _ c.args.seat.now c.serve_lines.new.handler.seat.now _ _ _ _ _ c.serve_lines.result (search rules) c.serve_lines.ensures.served).0

pub returns-clause-lines_served : goal.returns-clause-lines_served
returns-clause-lines_served g c =
    (ended_as g.B.SeatedAs.seat_of g.A.Answerer.does g.B.BoardBody.folding g.B.Body.operations g.B.Single.the_kind g.B.Single.shown_as _ _ c.requires.right _ _ _ c.args.seat.now c.serve_lines.new.handler.seat.now _ _ _ _ _ c.serve_lines.result (search rules) c.serve_lines.ensures.served).1
