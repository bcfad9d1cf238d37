-- What the loop keeps in `seek_wider`: up to the place the test does not become true.
use Rattle.std.proofs.Common.{◌+◌, ◌-◌}
use Rattle.lv_tree.specs.Tests.{Seeking}
use Rattle.lv_tree.proofs.find.seek_wider.Given as goal

abbrev pub invariant-up : goal.invariant-up
invariant-up g l = Seeking l.down (g.B.Joins.operations l.body) (g.T.Test.passes l.test) l.cells l.fn.start l.from l.to l.node l.width l.sum

abbrev pub decreases-up : goal.decreases-up
decreases-up g l = l.to + 1 - l.width
