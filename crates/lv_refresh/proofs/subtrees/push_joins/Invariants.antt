-- What the loop keeps in `push_joins`: puts the join of each eight summaries into an empty vector.
use Rattle.std.proofs.Common.{◌≡◌, ◌+◌, ◌*◌, vec_capacity, vec_len}
use Rattle.lv_refresh.proofs.SubtreeFolds.{AreFirstFolds}
use Rattle.lv_refresh.proofs.subtrees.push_joins.Given as goal

-- the first k joins are there, with room for the rest
abbrev pub invariant-loop-k : goal.invariant-loop-k
invariant-loop-k g l = record {
  first : AreFirstFolds (g.B.Body.operations l.body) l.fn._elements (8 * l.fn._each) l.k l.joins.items;
  count : vec_len l.joins ≡ vec_len l.initial.joins + l.k;
  capacity : vec_capacity l.joins ≡ vec_capacity l.initial.joins;
}
