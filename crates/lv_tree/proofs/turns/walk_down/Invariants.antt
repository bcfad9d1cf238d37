-- What the loop keeps in `walk_down`: the walk has come down to an index, which the range has.
use Rattle.std.proofs.Common.{◌≤◌}
use Rattle.lv_tree.specs.Walks.{HasWalkedDown}
use Rattle.lv_tree.proofs.turns.walk_down.Given as goal

abbrev pub invariant-loop-at : goal.invariant-loop-at
invariant-loop-at g l = record {
  walked : HasWalkedDown (g.B.Body.operations l.body) (g.T.Test.passes l.test) (g.E.Elements.listed l.elements) l.at l.hi l.sum;
  high : l.stop ≤ l.at;
}

abbrev pub decreases-loop-at : goal.decreases-loop-at
decreases-loop-at g l = l.at
