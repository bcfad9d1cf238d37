-- Loop invariants of `edit_400`: makes 400 tries.
use Rattle.lv_board.specs.Closing.{IsStill}
use Rattle.board_tests.proofs.board_refreshes.edit_400.Given as goal

abbrev pub invariant-loop-k : goal.invariant-loop-k
invariant-loop-k l = IsStill l.fn.seat l.mine
