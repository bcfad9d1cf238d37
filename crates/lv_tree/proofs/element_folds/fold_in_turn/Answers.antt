-- Proof of `fold_in_turn`: the fold of a range, an element at a time.
use Rattle.std.proofs.Common.{◌<◌, length, sym, ap, ◌∙◌, subst, arith, w64}
use Rattle.std.proofs.lemmas.Int.{to_z-of_z}
use Rattle.std.proofs.lemmas.List.Elements.{All-get_or}
use Rattle.lv_geometry.specs.Elements.{IsElement}
use Rattle.lv_tree.proofs.RangeLaws.{can_grow, one_more}
use Rattle.lv_tree.proofs.element_folds.fold_in_turn.Goals as goal

pub extend_long-sum-requires : goal.extend_long-sum-requires
extend_long-sum-requires g c =
    let body = c.args.body.now in
    let b = c.bounds.ensures in
    can_grow (g.B.Body.operations body) (g.B.Body.is_within body) c.long_laws.ensures (g.E.Elements.listed c.args.elements.now) b.elements b.few c.args.lo c.loop-i.i c.loop-i.sum c.loop-i.invariant.so_far

pub loop-i-preserved : goal.loop-i-preserved
loop-i-preserved g c =
    let body = c.args.body.now in
    let o = g.B.Body.operations body in
    let xs = g.E.Elements.listed c.args.elements.now in
    let i = c.loop-i.i in
    let inv = c.loop-i.invariant in
    let small : i < length xs = omega (arith, c.loop-i-test.true, c.loop-i.auto.i-end, c.requires.inside) in
    let x = c.read.result in
    let fits : IsElement x = subst IsElement (sym c.read.ensures) (All-get_or IsElement xs i x small c.bounds.ensures.elements) in
    let joined = c.extend_long-sum.ensures ∙ ap (λ y. o.join c.loop-i.sum (o.lift y)) (to_z-of_z w64 x fits) in
    record {
      so_far = one_more o xs c.args.lo i c.loop-i.sum _ x inv.low small inv.so_far c.read.ensures joined;
      low = omega (arith, inv.low);
    }
