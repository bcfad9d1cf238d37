-- What the loop keeps in `prepare_series_each`: only trees have changed.
use Rattle.std.proofs.Common.{◌≡◌}
use Rattle.lv_script.specs.Values.{without_trees}
use Rattle.livevec_c.proofs.trees.prepare_series_each.Given as goal

abbrev pub invariant-loop-question : goal.invariant-loop-question
invariant-loop-question l = without_trees l.series ≡ without_trees l.fn.series
