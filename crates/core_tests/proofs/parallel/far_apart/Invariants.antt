-- What the loop keeps in `far_apart`, which makes 65,536 elements: the first is 1, the last is 2, and all others are 0.
use Rattle.std.proofs.Common.{◌≡◌, ◌+◌, vec_len}
use Rattle.core_tests.proofs.parallel.far_apart.Given as goal

-- one element more than were pushed in the loop
abbrev pub invariant-loop : goal.invariant-loop
invariant-loop l = vec_len l.xs ≡ l.counter + 1
