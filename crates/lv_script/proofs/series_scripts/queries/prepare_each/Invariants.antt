-- What the loop keeps in `prepare_each`: only trees have changed.
use Rattle.std.proofs.Common.{◌≡◌}
use Rattle.lv_script.specs.Values.{without_trees}
use Rattle.lv_script.proofs.series_scripts.queries.prepare_each.Given as goal

abbrev pub invariant-loop-query : goal.invariant-loop-query
invariant-loop-query l = without_trees l.series ≡ without_trees l.fn.series
