-- What the loop keeps in `fold_in_turn`: the fold of the elements so far.
use Rattle.std.proofs.Common.{◌≡◌, ◌≤◌, slice_range}
use Rattle.lv_bodies.specs.Body.{fold_of}
use Rattle.lv_tree.proofs.element_folds.fold_in_turn.Given as goal

abbrev pub invariant-loop-i : goal.invariant-loop-i
invariant-loop-i g l = record {
  so_far : l.sum ≡ fold_of (g.B.Body.operations l.body) (slice_range (g.E.Elements.listed l.elements) l.lo l.i);
  low : l.lo ≤ l.i;
}
