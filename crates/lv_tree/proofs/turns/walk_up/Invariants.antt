-- What the loop keeps in `walk_up`: the walk has come up to an index.
use Rattle.lv_tree.specs.Walks.{HasWalkedUp}
use Rattle.lv_tree.proofs.turns.walk_up.Given as goal

abbrev pub invariant-loop-i : goal.invariant-loop-i
invariant-loop-i g l = HasWalkedUp (g.B.Body.operations l.body) (g.T.Test.passes l.test) (g.E.Elements.listed l.elements) l.lo l.i l.sum
