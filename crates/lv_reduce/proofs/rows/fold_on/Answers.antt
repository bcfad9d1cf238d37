-- Proof of `fold_on`: a fold that is continued over the elements of a slice.
use Rattle.std.proofs.Common.{◌≡◌, ◌+◌, ◌<◌, pos, length, slice_index_or, rules, refl, subst, ap, ◌∙◌, arith}
use Rattle.std.specs.Int.{w64}
use Rattle.std.proofs.lemmas.Int.{to_z-of_z}
use Rattle.std.proofs.lemmas.List.{take_all}
use Rattle.lv_geometry.specs.Elements.{IsElement}
use Rattle.lv_reduce.specs.Running.{reached}
use Rattle.lv_reduce.proofs.RunLaws.{reached-more}
use Rattle.lv_reduce.proofs.rows.fold_on.Goals as goal

pub loop-x-init : goal.loop-x-init
loop-x-init g c =
    let within = g.B.Body.is_within c.args.body.now in
    let none : c.requires.count ≡ c.requires.count + 0 = omega arith in
    record {
      sum = refl;
      can = (c.requires.count, subst (within c.args.before) none c.requires.count_within, c.requires.few);
    }

pub fold_more-sum-requires-after_bounds : goal.fold_more-sum-requires-after_bounds
fold_more-sum-requires-after_bounds g c κs within =
    let can = c.loop-x.invariant.can in
    record { count = can.0 + c.loop-x.x-index; count_within = can.1; few = omega (arith, can.2) }

pub loop-x-preserved : goal.loop-x-preserved
loop-x-preserved g c =
    let body = c.args.body.now in
    let o = g.B.Body.operations body in
    let xs = c.args.xs.now in
    let k = c.loop-x.x-index in
    let x = slice_index_or xs k (pos 0) in
    let small : k < length xs = omega arith in
    let fits : IsElement x = search rules in
    let next = c.fold_more-sum.result in
    let joined : next ≡ o.join c.loop-x.sum (o.lift x) = c.fold_more-sum.ensures.value ∙ ap (λ y. o.join c.loop-x.sum (o.lift y)) (to_z-of_z w64 x fits) in
    let can = c.loop-x.invariant.can in
    let place : can.0 + k + 1 ≡ can.0 + (k + 1) = omega arith in
    record {
      sum = reached-more o c.args.before xs k x (pos 0) small refl c.loop-x.sum next c.loop-x.invariant.sum joined;
      can = (can.0, subst (g.B.Body.is_within body next) place (c.fold_more-sum.ensures.within (can.0 + k) can.1 (omega (arith, can.2))), can.2);
    }

pub returns : goal.returns
returns g c =
    let o = g.B.Body.operations c.args.body.now in
    c.loop-x.invariant.sum ∙ ap (reached o c.args.before) (take_all c.loop-x.x-index c.args.xs.now (omega arith))
