-- Proof of `seek_narrower`: by ever narrower nodes.
use Rattle.std.proofs.Common.{◌*◌, ◌/◌, ◌<◌, ◌≤◌, ◌∙◌, sym, subst, arith}
use Rattle.lv_tree.specs.Tests.{left_of, Seeking}
use Rattle.lv_tree.proofs.Turning.{half_past, halves_whole, seek_down, seek_ends, seek_past, seek_step, seek_turn}
use Rattle.lv_tree.proofs.find.seek_narrower.Goals as goal

pub down-preserved-then-left-width : goal.down-preserved-then-left-width
down-preserved-then-left-width g c =
    let inv = c.down.invariant in
    let half = seek_down (g.B.Joins.operations c.args.body.now) (g.B.Joins.is_within c.args.body.now) c.join_laws.ensures c.args.cells.now c.args.start c.args.from c.args.to c.requires.tree c.requires.inside c.args.down c.requires.folds (g.T.Test.passes c.args.test.now) c.down.node c.down.width c.down.sum inv.seeking c.down-test.true inv.past in
    record { seeking = half.0; past = omega (arith, c.if-left-width.true, c.left.ensures) }

pub joined_with-next-requires-clause-may : goal.joined_with-next-requires-clause-may
joined_with-next-requires-clause-may g c =
    let inv = c.down.invariant in
    let half = seek_down (g.B.Joins.operations c.args.body.now) (g.B.Joins.is_within c.args.body.now) c.join_laws.ensures c.args.cells.now c.args.start c.args.from c.args.to c.requires.tree c.requires.inside c.args.down c.requires.folds (g.T.Test.passes c.args.test.now) c.down.node c.down.width c.down.sum inv.seeking c.down-test.true inv.past in
    (seek_step (g.B.Joins.operations c.args.body.now) (g.B.Joins.is_within c.args.body.now) c.join_laws.ensures c.args.cells.now c.args.start c.args.from c.args.to c.requires.tree c.requires.inside c.args.down c.requires.folds (g.T.Test.passes c.args.test.now) (c.down.node * 2) (c.down.width / 2) c.down.sum half.0 (omega (arith, c.if-left-width.false, c.left.ensures))).may

pub returns-then-test : goal.returns-then-test
returns-then-test g c =
    let inv = c.down.invariant in
    let half = seek_down (g.B.Joins.operations c.args.body.now) (g.B.Joins.is_within c.args.body.now) c.join_laws.ensures c.args.cells.now c.args.start c.args.from c.args.to c.requires.tree c.requires.inside c.args.down c.requires.folds (g.T.Test.passes c.args.test.now) c.down.node c.down.width c.down.sum inv.seeking c.down-test.true inv.past in
    let fits : c.down.width / 2 ≤ left_of c.args.down c.args.from c.args.to (c.down.node * 2 * (c.down.width / 2)) = omega (arith, c.if-left-width.false, c.left.ensures) in
    let m = seek_step (g.B.Joins.operations c.args.body.now) (g.B.Joins.is_within c.args.body.now) c.join_laws.ensures c.args.cells.now c.args.start c.args.from c.args.to c.requires.tree c.requires.inside c.args.down c.requires.folds (g.T.Test.passes c.args.test.now) (c.down.node * 2) (c.down.width / 2) c.down.sum half.0 fits in
    seek_turn (g.B.Joins.operations c.args.body.now) (g.B.Joins.is_within c.args.body.now) c.join_laws.ensures c.args.cells.now c.args.start c.args.from c.args.to c.requires.tree c.requires.inside c.args.down c.requires.folds (g.T.Test.passes c.args.test.now) (c.down.node * 2) (c.down.width / 2) c.down.sum c.joined_with-next.result half.0 fits (c.joined_with-next.ensures ∙ m.is) (sym c.test.ensures ∙ c.if-test.true)

pub down-preserved : goal.down-preserved
down-preserved g c =
    let inv = c.down.invariant in
    let half = seek_down (g.B.Joins.operations c.args.body.now) (g.B.Joins.is_within c.args.body.now) c.join_laws.ensures c.args.cells.now c.args.start c.args.from c.args.to c.requires.tree c.requires.inside c.args.down c.requires.folds (g.T.Test.passes c.args.test.now) c.down.node c.down.width c.down.sum inv.seeking c.down-test.true inv.past in
    let fits : c.down.width / 2 ≤ left_of c.args.down c.args.from c.args.to (c.down.node * 2 * (c.down.width / 2)) = omega (arith, c.if-left-width.false, c.left.ensures) in
    let m = seek_step (g.B.Joins.operations c.args.body.now) (g.B.Joins.is_within c.args.body.now) c.join_laws.ensures c.args.cells.now c.args.start c.args.from c.args.to c.requires.tree c.requires.inside c.args.down c.requires.folds (g.T.Test.passes c.args.test.now) (c.down.node * 2) (c.down.width / 2) c.down.sum half.0 fits in
    let even = halves_whole (g.B.Joins.operations c.args.body.now) (g.B.Joins.is_within c.args.body.now) c.join_laws.ensures c.args.cells.now c.args.start c.args.from c.args.to c.requires.tree c.requires.inside c.args.down c.requires.folds (g.T.Test.passes c.args.test.now) c.down.node c.down.width c.down.sum inv.seeking c.down-test.true in
    let next = seek_past (g.B.Joins.operations c.args.body.now) (g.B.Joins.is_within c.args.body.now) c.join_laws.ensures c.args.cells.now c.args.start c.args.from c.args.to c.requires.tree c.requires.inside c.args.down c.requires.folds (g.T.Test.passes c.args.test.now) (c.down.node * 2) (c.down.width / 2) c.down.sum c.joined_with-next.result half.0 fits (c.joined_with-next.ensures ∙ m.is) (sym c.test.ensures ∙ c.if-test.false) in
    let past = half_past c.args.down c.args.from c.args.to c.down.node c.down.width c.down-test.true half.1 even in
    record {
      seeking = subst (λ n. Seeking c.args.down (g.B.Joins.operations c.args.body.now) (g.T.Test.passes c.args.test.now) c.args.cells.now c.args.start c.args.from c.args.to n (c.down.width / 2) c.joined_with-next.result) (sym c.one_on-node.ensures) next;
      past = subst (λ n. left_of c.args.down c.args.from c.args.to (n * (c.down.width / 2)) < c.down.width / 2) (sym c.one_on-node.ensures) past;
    }

pub returns : goal.returns
returns g c =
    let inv = c.down.invariant in
    seek_ends c.args.down (g.B.Joins.operations c.args.body.now) (g.T.Test.passes c.args.test.now) c.args.cells.now c.args.start c.args.from c.args.to c.down.node c.down.width c.down.sum inv.seeking inv.past (omega (arith, c.down-test.false))

pub left-requires-clause-low : goal.left-requires-clause-low
left-requires-clause-low g c = (seek_down (g.B.Joins.operations c.args.body.now) (g.B.Joins.is_within c.args.body.now) c.join_laws.ensures c.args.cells.now c.args.start c.args.from c.args.to c.requires.tree c.requires.inside c.args.down c.requires.folds (g.T.Test.passes c.args.test.now) c.down.node c.down.width c.down.sum c.down.invariant.seeking c.down-test.true c.down.invariant.past).0.low

pub left-requires-clause-high : goal.left-requires-clause-high
left-requires-clause-high g c = (seek_down (g.B.Joins.operations c.args.body.now) (g.B.Joins.is_within c.args.body.now) c.join_laws.ensures c.args.cells.now c.args.start c.args.from c.args.to c.requires.tree c.requires.inside c.args.down c.requires.folds (g.T.Test.passes c.args.test.now) c.down.node c.down.width c.down.sum c.down.invariant.seeking c.down-test.true c.down.invariant.past).0.high
