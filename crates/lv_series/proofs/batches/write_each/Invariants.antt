-- What the loop keeps in `write_each`.
use Rattle.std.proofs.Common.{◌≡◌, fold, length, take}
use Rattle.lv_series.specs.Batches.{writes_at}
use Rattle.lv_series.specs.Blocks.{IsWindow}
use Rattle.lv_series.specs.Series.{changed, held_in}
use Rattle.lv_series.specs.Trees.{AreOver, KeepsKinds}
use Rattle.lv_series.proofs.batches.write_each.Given as goal

-- the writes so far are made

abbrev pub invariant-loop-k : goal.invariant-loop-k
invariant-loop-k l = record {
  window : IsWindow l.base l.first l.elements.items;
  over : AreOver l.base l.first l.elements.items l.trees;
  kinds : KeepsKinds l.initial.trees l.trees;
  len : length l.elements.items ≡ length l.initial.elements.items;
  made : held_in l.base l.first l.elements.items ≡ fold changed (held_in l.base l.first l.initial.elements.items) (take l.k (writes_at l.indices l.values));
}
