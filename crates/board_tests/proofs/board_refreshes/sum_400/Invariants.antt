-- Loop invariants of `sum_400`: does this 400 times.
use Rattle.lv_board.specs.Closing.{IsStill}
use Rattle.board_tests.proofs.board_refreshes.sum_400.Given as goal

abbrev pub invariant-loop : goal.invariant-loop
invariant-loop l = IsStill l.fn.seat l.mine
