-- Loop invariants of `push_eight`: pushes 1 to 8.
use Rattle.lv_board.specs.Closing.{IsStill}
use Rattle.board_tests.proofs.board_refreshes.push_eight.Given as goal

abbrev pub invariant-loop-x : goal.invariant-loop-x
invariant-loop-x g l = IsStill l.initial.seat l.seat
