-- Proof of `seek_wider`: by ever wider nodes.
use Rattle.std.proofs.Common.{◌*◌, ◌/◌, ◌≤◌, ◌∙◌, sym, subst, arith}
use Rattle.lv_tree.specs.Tests.{beyond, left_of, Seeking}
use Rattle.lv_tree.proofs.Turning.{one_on_even, seek_begins, seek_past, seek_step, seek_turn, seek_up}
use Rattle.lv_tree.proofs.find.seek_wider.Goals as goal

pub up-init : goal.up-init
up-init g c = subst (λ n. Seeking c.args.down (g.B.Joins.operations c.args.body.now) (g.T.Test.passes c.args.test.now) c.args.cells.now c.args.start c.args.from c.args.to n 1 c.args.start) (sym c.first_place-node.ensures) (seek_begins (g.B.Joins.operations c.args.body.now) (g.B.Joins.is_within c.args.body.now) c.join_laws.ensures c.args.cells.now c.args.start c.args.from c.args.to c.requires.tree c.requires.inside c.args.down c.requires.folds (g.T.Test.passes c.args.test.now) c.requires.order)

pub up-preserved-then-node-eq0 : goal.up-preserved-then-node-eq0
up-preserved-then-node-eq0 g c = seek_up (g.B.Joins.operations c.args.body.now) (g.B.Joins.is_within c.args.body.now) c.join_laws.ensures c.args.cells.now c.args.start c.args.from c.args.to c.requires.tree c.requires.inside c.args.down c.requires.folds (g.T.Test.passes c.args.test.now) c.up.node c.up.width c.up.sum c.up.invariant c.if-node-eq0.true

pub joined_with-next-requires-clause-may : goal.joined_with-next-requires-clause-may
joined_with-next-requires-clause-may g c =
    (seek_step (g.B.Joins.operations c.args.body.now) (g.B.Joins.is_within c.args.body.now) c.join_laws.ensures c.args.cells.now c.args.start c.args.from c.args.to c.requires.tree c.requires.inside c.args.down c.requires.folds (g.T.Test.passes c.args.test.now) c.up.node c.up.width c.up.sum c.up.invariant (omega (arith, c.up-test.true, c.left.ensures))).may

pub returns-then-test : goal.returns-then-test
returns-then-test g c =
    let k = c.up.invariant in
    let fits : c.up.width ≤ left_of c.args.down c.args.from c.args.to (c.up.node * c.up.width) = omega (arith, c.up-test.true, c.left.ensures) in
    let m = seek_step (g.B.Joins.operations c.args.body.now) (g.B.Joins.is_within c.args.body.now) c.join_laws.ensures c.args.cells.now c.args.start c.args.from c.args.to c.requires.tree c.requires.inside c.args.down c.requires.folds (g.T.Test.passes c.args.test.now) c.up.node c.up.width c.up.sum k fits in
    seek_turn (g.B.Joins.operations c.args.body.now) (g.B.Joins.is_within c.args.body.now) c.join_laws.ensures c.args.cells.now c.args.start c.args.from c.args.to c.requires.tree c.requires.inside c.args.down c.requires.folds (g.T.Test.passes c.args.test.now) c.up.node c.up.width c.up.sum c.joined_with-next.result k fits (c.joined_with-next.ensures ∙ m.is) (sym c.test.ensures ∙ c.if-test.true)

pub up-preserved : goal.up-preserved
up-preserved g c =
    let k = c.up.invariant in
    let fits : c.up.width ≤ left_of c.args.down c.args.from c.args.to (c.up.node * c.up.width) = omega (arith, c.up-test.true, c.left.ensures) in
    let m = seek_step (g.B.Joins.operations c.args.body.now) (g.B.Joins.is_within c.args.body.now) c.join_laws.ensures c.args.cells.now c.args.start c.args.from c.args.to c.requires.tree c.requires.inside c.args.down c.requires.folds (g.T.Test.passes c.args.test.now) c.up.node c.up.width c.up.sum k fits in
    let next = seek_past (g.B.Joins.operations c.args.body.now) (g.B.Joins.is_within c.args.body.now) c.join_laws.ensures c.args.cells.now c.args.start c.args.from c.args.to c.requires.tree c.requires.inside c.args.down c.requires.folds (g.T.Test.passes c.args.test.now) c.up.node c.up.width c.up.sum c.joined_with-next.result k fits (c.joined_with-next.ensures ∙ m.is) (sym c.test.ensures ∙ c.if-test.false) in
    let up = seek_up (g.B.Joins.operations c.args.body.now) (g.B.Joins.is_within c.args.body.now) c.join_laws.ensures c.args.cells.now c.args.start c.args.from c.args.to c.requires.tree c.requires.inside c.args.down c.requires.folds (g.T.Test.passes c.args.test.now) (beyond c.args.down c.up.node 1) c.up.width c.joined_with-next.result next (one_on_even c.args.down c.up.node (omega (arith, c.if-node-eq0.false))) in
    subst (λ n. Seeking c.args.down (g.B.Joins.operations c.args.body.now) (g.T.Test.passes c.args.test.now) c.args.cells.now c.args.start c.args.from c.args.to (n / 2) (c.up.width * 2) c.joined_with-next.result) (sym c.one_on-node.ensures) up
