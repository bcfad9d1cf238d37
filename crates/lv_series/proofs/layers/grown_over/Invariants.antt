-- What the loop keeps in `grown_over`: the blocks so far have leaves.
use Rattle.std.proofs.Common.{◌≡◌, true}
use Rattle.lv_series.specs.Blocks.{CoversTo}
use Rattle.lv_series.proofs.layers.grown_over.Given as goal

abbrev pub invariant-loop-k : goal.invariant-loop-k
invariant-loop-k g l = record {
  body : l.tree.body ≡ l.body;
  covers : CoversTo (g.B.Body.operations l.body) l.base l.first l.k l.elements (record { body = l.tree.body; kept = true; first = l.tree.first; sums = l.tree.sums });
}
