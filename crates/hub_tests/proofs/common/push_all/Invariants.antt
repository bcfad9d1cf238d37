-- Loop invariants of `push_all`: pushes equal elements in turn, and checks that each is accepted.
use Rattle.std.proofs.Common.{◌≡◌}
use Rattle.hub_tests.proofs.common.push_all.Given as goal

abbrev pub invariant-loop : goal.invariant-loop
invariant-loop g l = l.share.parts ≡ l.initial.share.parts
