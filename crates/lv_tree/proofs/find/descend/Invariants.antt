-- What the loop keeps in `descend`: a node with which the test becomes true.
use Rattle.lv_tree.specs.Tests.{TurnsAt}
use Rattle.lv_tree.proofs.find.descend.Given as goal

abbrev pub invariant-loop-width : goal.invariant-loop-width
invariant-loop-width g l = TurnsAt l.fn.down (g.B.Joins.operations l.body) (g.T.Test.passes l.test) l.cells l.fn.start l.fn.from l.fn.to l.node l.width l.sum

abbrev pub decreases-loop-width : goal.decreases-loop-width
decreases-loop-width g l = l.width
