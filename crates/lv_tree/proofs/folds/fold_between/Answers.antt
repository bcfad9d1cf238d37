-- Proof of `fold_between`: the join of the leaves from place `from` up to `to`.
use Rattle.std.proofs.Common.{◌∙◌, arith}
use Rattle.lv_tree.proofs.Ends.{back_may, begins, ends, folds_on, front_may, high_inside}
use Rattle.lv_tree.proofs.folds.fold_between.Goals as goal

pub loop-low-init : goal.loop-low-init
loop-low-init g c =
    let body = c.args.body.now in
    begins (g.B.Joins.operations body) (g.B.Joins.is_within body) c.join_laws.ensures c.args.cells.now c.args.from c.args.to c.requires.folds c.requires.tree c.nothing-front.result c.nothing-back.result c.nothing-front.ensures c.nothing-back.ensures c.requires.order

pub with_node_behind-front-requires-clause-inside : goal.with_node_behind-front-requires-clause-inside
with_node_behind-front-requires-clause-inside g c =
    let body = c.args.body.now in
    let k = high_inside (g.B.Joins.operations body) (g.B.Joins.is_within body) c.join_laws.ensures c.args.cells.now c.args.from c.args.to c.requires.folds c.requires.tree c.loop-low.low c.loop-low.high c.loop-low.front c.loop-low.back c.loop-low.invariant in
    omega (arith, k, c.loop-low-test.true, c.requires.inside)

pub with_node_before-back-requires-clause-inside : goal.with_node_before-back-requires-clause-inside
with_node_before-back-requires-clause-inside g c =
    let body = c.args.body.now in
    let k = high_inside (g.B.Joins.operations body) (g.B.Joins.is_within body) c.join_laws.ensures c.args.cells.now c.args.from c.args.to c.requires.folds c.requires.tree c.loop-low.low c.loop-low.high c.loop-low.front c.loop-low.back c.loop-low.invariant in
    omega (arith, k, c.requires.inside)

pub with_node_behind-front-requires-clause-may : goal.with_node_behind-front-requires-clause-may
with_node_behind-front-requires-clause-may g c =
    let body = c.args.body.now in
    front_may (g.B.Joins.operations body) (g.B.Joins.is_within body) c.join_laws.ensures c.args.cells.now c.args.from c.args.to c.requires.folds c.requires.tree c.loop-low.low c.loop-low.high c.loop-low.front c.loop-low.back c.loop-low.invariant c.loop-low-test.true

pub with_node_before-back-requires-clause-may : goal.with_node_before-back-requires-clause-may
with_node_before-back-requires-clause-may g c =
    let body = c.args.body.now in
    back_may (g.B.Joins.operations body) (g.B.Joins.is_within body) c.join_laws.ensures c.args.cells.now c.args.from c.args.to c.requires.folds c.requires.tree c.loop-low.low c.loop-low.high c.loop-low.front c.loop-low.back c.loop-low.invariant c.loop-low-test.true

pub loop-low-preserved : goal.loop-low-preserved
loop-low-preserved g c =
    let body = c.args.body.now in
    folds_on (g.B.Joins.operations body) (g.B.Joins.is_within body) c.join_laws.ensures c.args.cells.now c.args.from c.args.to c.requires.folds c.requires.tree c.loop-low.low c.loop-low.high c.loop-low.front c.loop-low.back c.with_node_behind-front.result c.with_node_before-back.result c.loop-low.invariant c.loop-low-test.true c.with_node_behind-front.ensures.odd c.with_node_behind-front.ensures.even c.with_node_before-back.ensures.odd c.with_node_before-back.ensures.even

pub joined-requires : goal.joined-requires
joined-requires g c =
    let body = c.args.body.now in
    (ends (g.B.Joins.operations body) (g.B.Joins.is_within body) c.join_laws.ensures c.args.cells.now c.args.from c.args.to c.requires.folds c.requires.tree c.loop-low.low c.loop-low.high c.loop-low.front c.loop-low.back c.loop-low.invariant c.loop-low-test.false).may

pub returns : goal.returns
returns g c =
    let body = c.args.body.now in
    c.joined.ensures ∙ (ends (g.B.Joins.operations body) (g.B.Joins.is_within body) c.join_laws.ensures c.args.cells.now c.args.from c.args.to c.requires.folds c.requires.tree c.loop-low.low c.loop-low.high c.loop-low.front c.loop-low.back c.loop-low.invariant c.loop-low-test.false).is
