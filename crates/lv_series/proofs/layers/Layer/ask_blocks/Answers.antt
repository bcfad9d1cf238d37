-- Proof of `Layer::ask_blocks`: the leaves of the blocks are the folds of their elements.
use Rattle.lv_series.proofs.SearchLaws.{blocks_are, blocks_fold}
use Rattle.lv_series.proofs.layers.Layer.ask_blocks.Goals as goal

pub ask-requires-clause-folds : goal.ask-requires-clause-folds
ask-requires-clause-folds g c κs within =
    let in_ = c.self.inside in
    blocks_fold g.B.Body.operations c.args.base c.args._first c.args._elements.now c.requires.window c.args.self.now (record { body = in_.tree.body; kept = in_.kept; first = in_.tree.first; sums = in_.tree.sums }) c.self.view_is c.requires.over c.requires.kept

pub returns-clause-value : goal.returns-clause-value
returns-clause-value g c =
    let in_ = c.self.inside in
    blocks_are g.B.Body.operations c.args.base c.args._first c.args._elements.now c.requires.window c.args.self.now (record { body = in_.tree.body; kept = in_.kept; first = in_.tree.first; sums = in_.tree.sums }) c.self.view_is c.requires.over c.requires.kept
    c.ask.result c.args.from c.args.to c.requires.low c.requires.order c.requires.high c.ask.ensures.sum
