-- Proof of `descend`: down to the leaf with which the test becomes true.
use Rattle.std.proofs.Common.{◌/◌, ◌∙◌, sym, subst}
use Rattle.lv_tree.specs.Tests.{TurnsAt}
use Rattle.lv_tree.proofs.Turning.{first_half, turns_first, turns_other, turns_with}
use Rattle.lv_tree.proofs.find.descend.Goals as goal

pub joined_with-next-requires-clause-may : goal.joined_with-next-requires-clause-may
joined_with-next-requires-clause-may g c =
    (first_half (g.B.Joins.operations c.args.body.now) (g.B.Joins.is_within c.args.body.now) c.join_laws.ensures c.args.cells.now c.args.start c.args.from c.args.to c.requires.tree c.requires.inside c.args.down c.requires.folds (g.T.Test.passes c.args.test.now) c.loop-width.node c.loop-width.width c.loop-width.sum c.loop-width.invariant c.loop-width-test.true).may

pub loop-width-preserved-then-not-test : goal.loop-width-preserved-then-not-test
loop-width-preserved-then-not-test g c =
    let m = first_half (g.B.Joins.operations c.args.body.now) (g.B.Joins.is_within c.args.body.now) c.join_laws.ensures c.args.cells.now c.args.start c.args.from c.args.to c.requires.tree c.requires.inside c.args.down c.requires.folds (g.T.Test.passes c.args.test.now) c.loop-width.node c.loop-width.width c.loop-width.sum c.loop-width.invariant c.loop-width-test.true in
    subst (λ n. TurnsAt c.args.down (g.B.Joins.operations c.args.body.now) (g.T.Test.passes c.args.test.now) c.args.cells.now c.args.start c.args.from c.args.to n (c.loop-width.width / 2) c.joined_with-next.result) (sym c.one_on-node.ensures)
    (turns_other (g.B.Joins.operations c.args.body.now) (g.B.Joins.is_within c.args.body.now) c.join_laws.ensures c.args.cells.now c.args.start c.args.from c.args.to c.requires.tree c.requires.inside c.args.down c.requires.folds (g.T.Test.passes c.args.test.now) c.loop-width.node c.loop-width.width c.loop-width.sum c.joined_with-next.result c.loop-width.invariant c.loop-width-test.true (c.joined_with-next.ensures ∙ m.is) (sym c.test.ensures ∙ c.if-not-test.true))

pub loop-width-preserved : goal.loop-width-preserved
loop-width-preserved g c =
    let m = first_half (g.B.Joins.operations c.args.body.now) (g.B.Joins.is_within c.args.body.now) c.join_laws.ensures c.args.cells.now c.args.start c.args.from c.args.to c.requires.tree c.requires.inside c.args.down c.requires.folds (g.T.Test.passes c.args.test.now) c.loop-width.node c.loop-width.width c.loop-width.sum c.loop-width.invariant c.loop-width-test.true in
    turns_first (g.B.Joins.operations c.args.body.now) (g.B.Joins.is_within c.args.body.now) c.join_laws.ensures c.args.cells.now c.args.start c.args.from c.args.to c.requires.tree c.requires.inside c.args.down c.requires.folds (g.T.Test.passes c.args.test.now) c.loop-width.node c.loop-width.width c.loop-width.sum c.joined_with-next.result c.loop-width.invariant c.loop-width-test.true (c.joined_with-next.ensures ∙ m.is) (sym c.test.ensures ∙ c.if-not-test.false)

pub returns : goal.returns
returns g c = turns_with (g.B.Joins.operations c.args.body.now) (g.B.Joins.is_within c.args.body.now) c.join_laws.ensures c.args.cells.now c.args.start c.args.from c.args.to c.requires.tree c.requires.inside c.args.down c.requires.folds (g.T.Test.passes c.args.test.now) c.loop-width.node c.loop-width.width c.loop-width.sum c.loop-width.invariant c.loop-width-test.false
