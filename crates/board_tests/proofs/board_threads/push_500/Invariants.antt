-- Loop invariants of `push_500`: pushes an element 500 times, and counts how often that is accepted.
use Rattle.std.specs.Prelude.{◌≤◌}
use Rattle.lv_board.specs.Closing.{IsStill}
use Rattle.board_tests.proofs.board_threads.push_500.Given as goal

abbrev pub invariant-loop : goal.invariant-loop
invariant-loop l = record { still : IsStill l.fn.seat l.mine; few : l.accepted ≤ l.counter }
