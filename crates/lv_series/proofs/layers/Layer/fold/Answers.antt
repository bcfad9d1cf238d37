-- Proof of `Layer::fold`: the leaves of the tree are those of the elements from its first block on.
use Rattle.std.proofs.Common.{sym, ap, ◌∙◌}
use Rattle.lv_series.proofs.SearchLaws.{leaves_are}
use Rattle.lv_series.proofs.layers.Layer.fold.Goals as goal

pub fold_range-requires-clause-leaves : goal.fold_range-requires-clause-leaves
fold_range-requires-clause-leaves g c κs within =
    let in_ = c.self.inside in
    rw c.tree.ensures (leaves_are g.B.Body.operations c.args.base c.args.first c.args.elements.now c.requires.window c.args.self.now (record { body = in_.tree.body; kept = in_.kept; first = in_.tree.first; sums = in_.tree.sums }) c.self.view_is c.requires.over
    (sym (ap (λ l. l.kept) c.self.view_is) ∙ c.if-not-self.false) c.gone_before-gone.result c.new-items.result c.gone_before-gone.ensures c.new-items.ensures)
