-- Loop invariants of `wait_for`: looks until there are this many elements, at most 1,000,000 times.
use Rattle.lv_board.specs.Closing.{IsStill}
use Rattle.board_tests.proofs.board_threads.wait_for.Given as goal

abbrev pub invariant-loop : goal.invariant-loop
invariant-loop l = IsStill l.initial.seat l.seat
