-- What the loop keeps in `renew`: each node up to one over the leaf is right.
use Rattle.lv_tree.proofs.Nodes.{Renewing}
use Rattle.lv_tree.proofs.renewals.renew.Given as goal

abbrev pub invariant-up : goal.invariant-up
invariant-up g l = Renewing (g.B.Joins.operations l.body) l.lo l.hi l.at l.fn.cells l.cells l.node l.width

abbrev pub decreases-up : goal.decreases-up
decreases-up g l = l.node
