-- Proof of the call that answers a line of a session.
use Rattle.lv_board.proofs.sessions.fn.run_board_session.call.Goals as goal

pub returns : goal.returns
returns g c = record {
  stays = c.answer_line.ensures.stays;
  text = c.answer_line.ensures.answer.0;
  answer = c.answer_line.ensures.answer.1;
  put = c.answer_line.ensures.answer.2;
  room = c.answer_line.ensures.room;
}
