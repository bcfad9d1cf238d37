-- Proof of `walk_down`: an element at a time.
use Rattle.std.proofs.Common.{◌-◌, ◌<◌, ◌≤◌, length, sym, ap, ◌∙◌, subst, arith, w64}
use Rattle.std.proofs.lemmas.Int.{to_z-of_z}
use Rattle.std.proofs.lemmas.List.Elements.{All-get_or}
use Rattle.lv_geometry.specs.Elements.{IsElement}
use Rattle.lv_bodies.specs.Long.{CanJoinLong}
use Rattle.lv_tree.proofs.TurnLaws.{down_can_grow, down_goes_on, down_more, down_passes}
use Rattle.lv_tree.proofs.turns.walk_down.Goals as goal

pub combine_long-sum-requires : goal.combine_long-sum-requires
combine_long-sum-requires g c =
    let body = c.args.body.now in
    let o = g.B.Body.operations body in
    let xs = g.E.Elements.listed c.args.elements.now in
    let few = c.bounds.ensures.few in
    let at = c.loop-at.at in
    let inv = c.loop-at.invariant in
    let small : at - 1 < length xs = omega (arith, c.loop-at-test.true, inv.walked.order, c.requires.inside) in
    let x = c.read.result in
    let fits : IsElement x = subst IsElement (sym c.read.ensures) (All-get_or IsElement xs (at - 1) x small c.bounds.ensures.elements) in
    let lifted = c.lift.ensures ∙ ap o.lift (to_z-of_z w64 x fits) in
    subst (λ s. CanJoinLong (g.B.Body.is_within body) s c.loop-at.sum) (sym lifted)
    (down_can_grow o (g.B.Body.is_within body) c.long_laws.ensures (g.T.Test.passes c.args.test.now) xs c.bounds.ensures.elements few at c.args.hi c.loop-at.sum x fits inv.walked)

pub returns-then-test : goal.returns-then-test
returns-then-test g c =
    let body = c.args.body.now in
    let o = g.B.Body.operations body in
    let test = g.T.Test.passes c.args.test.now in
    let xs = g.E.Elements.listed c.args.elements.now in
    let few = c.bounds.ensures.few in
    let at = c.loop-at.at in
    let s = c.loop-at.sum in
    let t = c.combine_long-sum.result in
    let inv = c.loop-at.invariant in
    let some : 0 < at = omega (arith, c.loop-at-test.true) in
    let inside : at ≤ length xs = omega (arith, inv.walked.order, c.requires.inside) in
    let small : at - 1 < length xs = omega (arith, some, inside) in
    let x = c.read.result in
    let fits : IsElement x = subst IsElement (sym c.read.ensures) (All-get_or IsElement xs (at - 1) x small c.bounds.ensures.elements) in
    let joined = c.combine_long-sum.ensures ∙ ap (λ u. o.join u s) (c.lift.ensures ∙ ap o.lift (to_z-of_z w64 x fits)) in
    let is = down_more o (g.B.Body.is_within body) c.long_laws.ensures test xs c.bounds.ensures.elements few at c.args.hi s t x inv.walked some inside c.read.ensures joined in
    down_passes o test xs c.args.stop at c.args.hi s t inv.walked is c.loop-at-test.true (sym c.test.ensures ∙ c.if-test.true)

pub loop-at-preserved : goal.loop-at-preserved
loop-at-preserved g c =
    let body = c.args.body.now in
    let o = g.B.Body.operations body in
    let test = g.T.Test.passes c.args.test.now in
    let xs = g.E.Elements.listed c.args.elements.now in
    let few = c.bounds.ensures.few in
    let at = c.loop-at.at in
    let s = c.loop-at.sum in
    let t = c.combine_long-sum.result in
    let inv = c.loop-at.invariant in
    let some : 0 < at = omega (arith, c.loop-at-test.true) in
    let inside : at ≤ length xs = omega (arith, inv.walked.order, c.requires.inside) in
    let small : at - 1 < length xs = omega (arith, some, inside) in
    let x = c.read.result in
    let fits : IsElement x = subst IsElement (sym c.read.ensures) (All-get_or IsElement xs (at - 1) x small c.bounds.ensures.elements) in
    let joined = c.combine_long-sum.ensures ∙ ap (λ u. o.join u s) (c.lift.ensures ∙ ap o.lift (to_z-of_z w64 x fits)) in
    let is = down_more o (g.B.Body.is_within body) c.long_laws.ensures test xs c.bounds.ensures.elements few at c.args.hi s t x inv.walked some inside c.read.ensures joined in
    record {
      walked = down_goes_on o test xs at c.args.hi s t inv.walked is (sym c.test.ensures ∙ c.if-test.false);
      high = omega (arith, c.loop-at-test.true);
    }
