-- What the loop keeps in `push_each`.
use Rattle.std.proofs.Common.{◌≡◌, ◌++◌, take}
use Rattle.lv_series.specs.Blocks.{IsWindow}
use Rattle.lv_series.specs.Trees.{AreOver, KeepsKinds}
use Rattle.lv_series.proofs.batches.push_each.Given as goal

-- the values so far are at the end

abbrev pub invariant-loop-k : goal.invariant-loop-k
invariant-loop-k l = record {
  window : IsWindow l.base l.first l.elements.items;
  over : AreOver l.base l.first l.elements.items l.trees;
  kinds : KeepsKinds l.initial.trees l.trees;
  made : l.elements.items ≡ l.initial.elements.items ++ take l.k l.values;
}
