-- Proof of the session's `handle`: a line is answered by the seat.
use Rattle.std.proofs.Common.{refl}
use Rattle.lv_lines.proofs.OutputLemmas.{Writes-put, Writes-trans}
use Rattle.lv_board.proofs.sessions.SessionLineHandler.handle.Goals as goal

pub returns-clause-ok : goal.returns-clause-ok
returns-clause-ok g c = record {
  reply = _;
  answered = record {
    answerer = refl;
    name = refl;
    held = _;
    left = _;
    done = rw (c.read_board_line-line.ensures, c.args.self.now.own) at c.answer.ensures;
    text_is = refl;
  };
  written = Writes-trans c.in_ok-make_room.ensures.ok (Writes-put _ _ _ _ (c.args.self.now.held _ _ _ _ _ _ c.answer.ensures).0);
}
