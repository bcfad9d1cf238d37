-- Loop invariants of `push_nine`: the parts of the share.
use Rattle.std.proofs.Common.{◌≡◌}
use Rattle.hub_tests.proofs.totals.push_nine.Given as goal

abbrev pub invariant-loop-index : goal.invariant-loop-index
invariant-loop-index g l = l.share.parts ≡ l.initial.share.parts
