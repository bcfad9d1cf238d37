-- What the loop keeps in `fold_between`: both ends are joined up to nodes of one level.
use Rattle.lv_tree.proofs.Ends.{Folding}
use Rattle.lv_tree.proofs.folds.fold_between.Given as goal

abbrev pub invariant-loop-low : goal.invariant-loop-low
invariant-loop-low g l = Folding (g.B.Joins.operations l.body) l.from l.to l.cells l.low l.high l.front l.back

abbrev pub decreases-loop-low : goal.decreases-loop-low
decreases-loop-low g l = l.high
