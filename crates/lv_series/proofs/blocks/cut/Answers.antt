-- Proof of `cut`: the first elements, and the leaves of the blocks that are still whole.
use Rattle.std.proofs.Common.{sym, subst, take}
use Rattle.lv_series.specs.Trees.{AreOver}
use Rattle.lv_series.proofs.TreeLaws.{all_cut}
use Rattle.lv_series.proofs.blocks.cut.Goals as goal

pub returns-clause-over : goal.returns-clause-over
returns-clause-over c =
    let xs = c.args.elements.now.items in
    let t = c.args.trees.now in
    subst (λ ys. AreOver c.args.base c.args.first ys c.truncate-2.new.self) (sym c.truncate.ensures.items)
    (subst (AreOver c.args.base c.args.first (take c.args.kept xs)) (sym c.truncate-2.ensures)
    (all_cut c.args.base c.args.first xs c.requires.window t c.requires.over c.args.kept c.requires.low c.requires.high))
