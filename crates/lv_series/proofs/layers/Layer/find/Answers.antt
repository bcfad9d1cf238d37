-- Proof of `Layer::find`: the leaves of the tree are those of the elements from its first block on.
use Rattle.lv_series.proofs.SearchLaws.{leaves_are}
use Rattle.lv_series.proofs.layers.Layer.find.Goals as goal

pub find_sought-requires-clause-leaves : goal.find_sought-requires-clause-leaves
find_sought-requires-clause-leaves g c κs within =
    let in_ = c.self.inside in
    rw c.tree.ensures (leaves_are g.B.Body.operations c.args.base c.args.first c.args.elements.now c.requires.window c.args.self.now (record { body = in_.tree.body; kept = in_.kept; first = in_.tree.first; sums = in_.tree.sums }) c.self.view_is c.requires.over
    c.requires.kept c.gone_before-gone.result c.new-items.result c.gone_before-gone.ensures c.new-items.ensures)
