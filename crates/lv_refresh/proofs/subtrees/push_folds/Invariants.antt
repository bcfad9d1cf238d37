-- What the loop keeps in `push_folds`: puts the fold of each eight elements into an empty vector.
use Rattle.std.proofs.Common.{◌≡◌, ◌+◌, ◌*◌, All, take, vec_capacity, vec_len}
use Rattle.lv_geometry.specs.Elements.{IsElement}
use Rattle.lv_refresh.proofs.SubtreeFolds.{AreFirstFolds}
use Rattle.lv_refresh.proofs.subtrees.push_folds.Given as goal

-- the folds of the first k blocks are there, with room for the rest
abbrev pub invariant-loop-k : goal.invariant-loop-k
invariant-loop-k g l = record {
  first : AreFirstFolds (g.B.Body.operations l.body) l.elements 8 l.k l.folds.items;
  elements : All IsElement (take (8 * l.k) l.elements);
  count : vec_len l.folds ≡ vec_len l.initial.folds + l.k;
  capacity : vec_capacity l.folds ≡ vec_capacity l.initial.folds;
}
