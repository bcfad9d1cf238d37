-- What the loop keeps in `prepare_samples_each`: only trees have changed.
use Rattle.std.proofs.Common.{◌≡◌}
use Rattle.livevec_c.specs.Targets.{seen_samples}
use Rattle.livevec_c.proofs.trees.prepare_samples_each.Given as goal

abbrev pub invariant-loop-question : goal.invariant-loop-question
invariant-loop-question l = seen_samples l.samples ≡ seen_samples l.fn.samples
