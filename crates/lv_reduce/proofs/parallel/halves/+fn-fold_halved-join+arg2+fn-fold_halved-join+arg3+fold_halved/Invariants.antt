-- The measures of the calls in `fold_halved`, and of the closures that it hands to `join`.
use Rattle.std.proofs.Common.{◌+◌, ◌*◌}
use Rattle.lv_reduce.proofs.parallel.halves.+fn-fold_halved-join+arg2+fn-fold_halved-join+arg3+fold_halved.Given as goal

abbrev pub decreases-fold_halved : goal.decreases-fold_halved
decreases-fold_halved g l = 2 * l.parts + 1

abbrev pub decreases-join+arg2 : goal.decreases-join+arg2
decreases-join+arg2 g l = 2 * l.low + 2

abbrev pub decreases-join+arg3 : goal.decreases-join+arg3
decreases-join+arg3 g l = 2 * l.high + 2
