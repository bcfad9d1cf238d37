-- Loop invariants of `push_until`: tries to push an element until that is accepted, at most 1,000,000 times.
use Rattle.lv_board.specs.Closing.{IsStill}
use Rattle.board_tests.proofs.board_threads.push_until.Given as goal

abbrev pub invariant-loop : goal.invariant-loop
invariant-loop l = IsStill l.initial.seat l.seat
