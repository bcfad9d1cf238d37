-- Proof of `pass_down`: over whole blocks.
use Rattle.std.proofs.Common.{subst}
use Rattle.lv_bodies.specs.Long.{LongLaws}
use Rattle.lv_tree.specs.BlockLaws.{leaves_are}
use Rattle.lv_tree.proofs.TurnLaws.{down_before, down_past}
use Rattle.lv_tree.proofs.turns.pass_down.Goals as goal

pub turn_down-passed-requires-clause-folds : goal.turn_down-passed-requires-clause-folds
turn_down-passed-requires-clause-folds g c κs within =
    let body = c.args.tree.now.body in
    let o = g.B.Body.operations body in
    let laws = subst (λ b. LongLaws (g.B.Body.operations b) (g.B.Body.is_within b)) c.body-body.ensures c.long_laws.ensures in
    let xs = g.E.Elements.listed c.args.elements.now in
    let sums = c.args.tree.now.sums in
    let b = c.bounds.ensures in
    down_before o (g.B.Body.is_within body) laws (g.T.Test.passes c.args.test.now) xs b.elements b.few sums (leaves_are o xs sums c.requires.leaves) c.args.from c.args.to c.args.hi c.args.back c.requires.order c.requires.blocks c.requires.walked

pub returns-clause-walked : goal.returns-clause-walked
returns-clause-walked g c =
    let body = c.args.tree.now.body in
    let o = g.B.Body.operations body in
    let laws = subst (λ b. LongLaws (g.B.Body.operations b) (g.B.Body.is_within b)) c.body-body.ensures c.long_laws.ensures in
    let xs = g.E.Elements.listed c.args.elements.now in
    let sums = c.args.tree.now.sums in
    let b = c.bounds.ensures in
    let passed = c.turn_down-passed.result in
    let e = c.turn_down-passed.ensures in
    down_past o (g.B.Body.is_within body) laws (g.T.Test.passes c.args.test.now) xs b.elements b.few sums (leaves_are o xs sums c.requires.leaves) passed.at c.args.to c.args.hi c.args.back passed.sum e.high c.requires.blocks c.requires.walked e.sum e.before
