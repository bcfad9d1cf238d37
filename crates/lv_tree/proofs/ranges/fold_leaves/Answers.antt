-- Proof of `fold_leaves`: the fold of whole blocks, which have leaves.
use Rattle.lv_tree.specs.BlockLaws.{leaves_join, middle_is}
use Rattle.lv_tree.proofs.ranges.fold_leaves.Goals as goal

pub fold-requires-clause-folds : goal.fold-requires-clause-folds
fold-requires-clause-folds g c =
    let o = g.T.B.Body.operations (g.T.Tree.by c.args.tree.now) in
    let b = c.bounds.ensures in
    leaves_join o (g.E.Elements.listed c.args.elements.now) (g.T.Tree.sums c.args.tree.now) c.requires.leaves b.elements b.few

pub returns : goal.returns
returns g c =
    let o = g.T.B.Body.operations (g.T.Tree.by c.args.tree.now) in
    let b = c.bounds.ensures in
    middle_is o (g.E.Elements.listed c.args.elements.now) (g.T.Tree.sums c.args.tree.now) c.requires.leaves b.elements b.few c.fold.result c.args.from c.args.to c.requires.order c.requires.blocks c.fold.ensures
