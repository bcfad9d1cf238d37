-- Proof of `pass_up`: over whole blocks.
use Rattle.std.proofs.Common.{◌≤◌, length, arith, subst}
use Rattle.lv_bodies.specs.Long.{LongLaws}
use Rattle.lv_tree.specs.BlockLaws.{leaves_are}
use Rattle.lv_tree.proofs.TurnLaws.{up_in_order, up_past}
use Rattle.lv_tree.proofs.turns.pass_up.Goals as goal

pub turn_up-passed-requires-clause-folds : goal.turn_up-passed-requires-clause-folds
turn_up-passed-requires-clause-folds g c κs within =
    let body = c.args.tree.now.body in
    let o = g.B.Body.operations body in
    let laws = subst (λ b. LongLaws (g.B.Body.operations b) (g.B.Body.is_within b)) c.body-body.ensures c.long_laws.ensures in
    let xs = g.E.Elements.listed c.args.elements.now in
    let sums = c.args.tree.now.sums in
    let b = c.bounds.ensures in
    up_in_order o (g.B.Body.is_within body) laws (g.T.Test.passes c.args.test.now) xs b.elements b.few sums (leaves_are o xs sums c.requires.leaves) c.args.lo c.args.from c.args.to c.args.front c.requires.order c.requires.blocks c.requires.walked

pub returns-clause-walked : goal.returns-clause-walked
returns-clause-walked g c =
    let body = c.args.tree.now.body in
    let o = g.B.Body.operations body in
    let laws = subst (λ b. LongLaws (g.B.Body.operations b) (g.B.Body.is_within b)) c.body-body.ensures c.long_laws.ensures in
    let xs = g.E.Elements.listed c.args.elements.now in
    let sums = c.args.tree.now.sums in
    let b = c.bounds.ensures in
    let passed = c.turn_up-passed.result in
    let e = c.turn_up-passed.ensures in
    let inside : passed.at ≤ length sums = omega (arith, e.high, c.requires.blocks) in
    up_past o (g.B.Body.is_within body) laws (g.T.Test.passes c.args.test.now) xs b.elements b.few sums (leaves_are o xs sums c.requires.leaves) c.args.lo c.args.from passed.at c.args.front passed.sum e.low inside c.requires.walked e.sum e.before
