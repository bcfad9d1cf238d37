-- What the loop keeps in `seek_narrower`: the same, and less is left than a node is wide.
use Rattle.lv_tree.specs.Tests.{SeeksShort}
use Rattle.lv_tree.proofs.find.seek_narrower.Given as goal

abbrev pub invariant-down : goal.invariant-down
invariant-down g l = SeeksShort l.down (g.B.Joins.operations l.body) (g.T.Test.passes l.test) l.cells l.fn.start l.from l.to l.node l.width l.sum

abbrev pub decreases-down : goal.decreases-down
decreases-down g l = l.width
