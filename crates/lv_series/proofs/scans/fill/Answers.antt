-- Proof of `fill`.
use Rattle.std.proofs.Common.{◌≡◌, pos, take, slice_index_or, if◌then◌else◌, rules, sym, ap, ◌∙◌, arith, length-set}
use Rattle.std.specs.Int.{w64}
use Rattle.std.proofs.lemmas.Int.{to_z-of_z}
use Rattle.std.proofs.lemmas.List.{take_more_set}
use Rattle.lv_geometry.specs.Elements.{IsElement}
use Rattle.lv_bodies.specs.LongLaws.{fold_of-within_long}
use Rattle.lv_series.proofs.ScanSteps.{may_grow, one_further, value_here, values_all, values_more}
use Rattle.lv_series.proofs.scans.fill.Goals as goal
use Rattle.lv_series.proofs.scans.fill.Goals.{then-inclusive, else-inclusive}

pub extend_long-sum-requires : goal.extend_long-sum-requires
extend_long-sum-requires g c =
    let body = c.args.body.now in
    let o = g.B.Body.operations body in
    let within = g.B.Body.is_within body in
    may_grow o c.args.before c.args.elements.now within (fold_of-within_long o within c.long_laws.ensures) c.requires.before c.requires.all c.loop-k.k c.loop-k.sum (omega (arith, c.loop-k-test.true, c.requires.paired)) c.loop-k.invariant.sum

pub loop-k-preserved : goal.loop-k-preserved
loop-k-preserved g c =
    let o = g.B.Body.operations c.args.body.now in
    let els = c.args.elements.now in
    let k = c.loop-k.k in
    let sum = c.loop-k.sum in
    let next = c.extend_long-sum.result in
    let value = c.if-inclusive.value in
    let into = c.loop-k.into in
    let x = slice_index_or els k (pos 0) in
    let fits : IsElement x = search rules in
    let joined : next ≡ o.join sum (o.lift x) = rw (to_z-of_z w64 x fits) at c.extend_long-sum.ensures in
    let further = one_further o c.args.before els k sum next (omega (arith, c.loop-k-test.true, c.requires.paired)) c.loop-k.invariant.sum joined in
    let chosen : value ≡ (if c.args.inclusive then next else sum) =
    elim c.if-inclusive.branch [
      | then-inclusive w ↦ w.value-is ∙ sym (ap (λ b. if b then next else sum) w.if-inclusive.true)
      | else-inclusive w ↦ w.value-is ∙ sym (ap (λ b. if b then next else sum) w.if-inclusive.false)
    ] in
    let here = value_here o c.args.before els c.args.inclusive k sum next value c.loop-k.invariant.sum further chosen in
    record {
      sum = further;
      values = take_more_set into k value (omega (arith, c.loop-k-test.true, c.loop-k.auto.into)) ∙ values_more o c.args.before els c.args.inclusive k value (take k into) c.loop-k.invariant.values here;
      len = length-set into k value ∙ c.loop-k.invariant.len;
    }

pub returns : goal.returns
returns g c =
    values_all (g.B.Body.operations c.args.body.now) c.args.before c.args.elements.now c.args.inclusive c.loop-k.k c.loop-k.into c.loop-k.invariant.len (omega (arith, c.loop-k-test.false, c.loop-k.auto.k-end, c.requires.paired)) c.loop-k.invariant.values
