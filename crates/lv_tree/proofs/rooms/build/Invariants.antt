-- What the loop keeps in `build`: the nodes over the leaves so far are right.
use Rattle.std.proofs.Common.{◌≡◌, drop}
use Rattle.lv_tree.specs.Nodes.{IsTree}
use Rattle.lv_tree.proofs.rooms.build.Given as goal

abbrev pub invariant-loop-at : goal.invariant-loop-at
invariant-loop-at g l = record {
  tree : IsTree (g.B.Joins.operations l.body) l.lo l.at l.cells;
  same : drop l.lo l.cells ≡ drop l.lo l.fn.cells;
}
