-- What the loop keeps in `walk`: the edits so far are followed.
use Rattle.std.proofs.Common.{◌≡◌, ◌*◌, ◌≤◌, length}
use Rattle.lv_edits.specs.History.{list_of}
use Rattle.lv_tree.specs.Follows.{Follows}
use Rattle.lv_tree.proofs.blocks.walk.Given as goal

abbrev pub invariant-loop-at : goal.invariant-loop-at
invariant-loop-at g l = record {
  late : Follows (g.T.B.Body.operations (g.T.Tree.by l.fn.tree)) l.cells.journal (g.T.Tree.sums l.tree) l.at l.size;
  whole : 8 * length (g.T.Tree.sums l.tree) ≤ length (list_of l.cells.journal);
  by : g.T.Tree.by l.tree ≡ g.T.Tree.by l.fn.tree;
  room : g.T.Tree.room l.tree ≡ g.T.Tree.room l.fn.tree;
}
