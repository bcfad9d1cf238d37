-- Proof of `walk_up`: an element at a time.
use Rattle.std.proofs.Common.{◌<◌, length, sym, ap, ◌∙◌, subst, arith, w64}
use Rattle.std.proofs.lemmas.Int.{to_z-of_z}
use Rattle.std.proofs.lemmas.List.Elements.{All-get_or}
use Rattle.lv_geometry.specs.Elements.{IsElement}
use Rattle.lv_tree.proofs.TurnLaws.{up_can_grow, up_goes_on, up_more, up_passes}
use Rattle.lv_tree.proofs.turns.walk_up.Goals as goal

pub extend_long-sum-requires : goal.extend_long-sum-requires
extend_long-sum-requires g c =
    let body = c.args.body.now in
    let xs = g.E.Elements.listed c.args.elements.now in
    let few = c.bounds.ensures.few in
    up_can_grow (g.B.Body.operations body) (g.B.Body.is_within body) c.long_laws.ensures (g.T.Test.passes c.args.test.now) xs c.bounds.ensures.elements few c.args.lo c.loop-i.i c.loop-i.sum c.loop-i.invariant

pub returns-then-test : goal.returns-then-test
returns-then-test g c =
    let body = c.args.body.now in
    let o = g.B.Body.operations body in
    let test = g.T.Test.passes c.args.test.now in
    let xs = g.E.Elements.listed c.args.elements.now in
    let few = c.bounds.ensures.few in
    let i = c.loop-i.i in
    let s = c.loop-i.sum in
    let t = c.extend_long-sum.result in
    let inv = c.loop-i.invariant in
    let more : i < c.args.stop = omega (arith, c.loop-i-test.true, c.loop-i.auto.i-end, c.requires.order) in
    let small : i < length xs = omega (arith, more, c.requires.inside) in
    let x = c.read.result in
    let fits : IsElement x = subst IsElement (sym c.read.ensures) (All-get_or IsElement xs i x small c.bounds.ensures.elements) in
    let joined = c.extend_long-sum.ensures ∙ ap (λ y. o.join s (o.lift y)) (to_z-of_z w64 x fits) in
    let is = up_more o (g.B.Body.is_within body) c.long_laws.ensures test xs c.bounds.ensures.elements few c.args.lo i s t x inv small c.read.ensures joined in
    up_passes o test xs c.args.lo i c.args.stop s t inv is more (sym c.test.ensures ∙ c.if-test.true)

pub loop-i-preserved : goal.loop-i-preserved
loop-i-preserved g c =
    let body = c.args.body.now in
    let o = g.B.Body.operations body in
    let test = g.T.Test.passes c.args.test.now in
    let xs = g.E.Elements.listed c.args.elements.now in
    let few = c.bounds.ensures.few in
    let i = c.loop-i.i in
    let s = c.loop-i.sum in
    let t = c.extend_long-sum.result in
    let inv = c.loop-i.invariant in
    let small : i < length xs = omega (arith, c.loop-i-test.true, c.loop-i.auto.i-end, c.requires.order, c.requires.inside) in
    let x = c.read.result in
    let fits : IsElement x = subst IsElement (sym c.read.ensures) (All-get_or IsElement xs i x small c.bounds.ensures.elements) in
    let joined = c.extend_long-sum.ensures ∙ ap (λ y. o.join s (o.lift y)) (to_z-of_z w64 x fits) in
    let is = up_more o (g.B.Body.is_within body) c.long_laws.ensures test xs c.bounds.ensures.elements few c.args.lo i s t x inv small c.read.ensures joined in
    up_goes_on o test xs c.args.lo i s t inv is (sym c.test.ensures ∙ c.if-test.false)
