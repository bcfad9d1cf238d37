-- What the loop keeps in `take_in`: the blocks so far have leaves.
use Rattle.std.proofs.Common.{◌≡◌, length}
use Rattle.lv_tree.specs.Follows.{FollowsAll}
use Rattle.lv_tree.proofs.blocks.take_in.Given as goal

abbrev pub invariant-loop-block : goal.invariant-loop-block
invariant-loop-block g l = record {
  late : FollowsAll (g.T.B.Body.operations (g.T.Tree.by l.fn.tree)) l.cells.journal (g.T.Tree.sums l.tree);
  count : length (g.T.Tree.sums l.tree) ≡ l.block;
  body : l.body ≡ g.T.Tree.by l.fn.tree;
  by : g.T.Tree.by l.tree ≡ g.T.Tree.by l.fn.tree;
  room : g.T.Tree.room l.tree ≡ g.T.Tree.room l.fn.tree;
}
