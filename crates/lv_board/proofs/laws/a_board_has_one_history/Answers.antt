-- Proof of `a_board_has_one_history`: a board that was closed had one history, and each session knows an earlier state of it, with all updates of
-- its own.
use Rattle.lv_board.proofs.PlainBoards.{closed_plain}
use Rattle.lv_board.proofs.laws.a_board_has_one_history.Goals as goal

pub returns : goal.returns
returns g c = closed_plain
