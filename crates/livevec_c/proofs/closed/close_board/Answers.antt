-- Proof of `close_board`: closes a board, and returns the object for its slot and the answer.
use Rattle.std.proofs.Common.{refl, inl, inr}
use Rattle.livevec_c.proofs.closed.close_board.Goals as goal

pub returns-in-Err : goal.returns-in-Err
returns-in-Err c = inr (c.in-Err.same, refl, c.in-Err.ensures.err.0, (c.in-Err.why, c.unclosed.ensures, c.in-Err.ensures.err.1))

pub returns-in-Ok : goal.returns-in-Ok
returns-in-Ok c = inl (c.ended.result, refl, rw c.ended.ensures c.count_answer-answer.ensures, rw c.ended.ensures c.in-Ok.ensures.ok)
