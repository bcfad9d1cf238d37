-- Proof of `fold_eight`: the fold of eight elements.
use Rattle.std.proofs.Common.{pos, ◌+◌, rules, arith, take, slice_index_or, ap, sym, subst, ◌∙◌, w64}
use Rattle.std.proofs.lemmas.Int.{to_z-of_z}
use Rattle.std.proofs.lemmas.List.{take_all}
use Rattle.lv_geometry.specs.Elements.{IsElement}
use Rattle.lv_bodies.specs.Body.{fold_of}
use Rattle.lv_bodies.proofs.MoreFolds.{one_more, more_within}
use Rattle.lv_bodies.proofs.long.LongBody.fold_eight.Goals as goal

pub loop-i-init : goal.loop-i-init
loop-i-init g c =
    let body = c.args.self.now in
    record {
      so_far = c.identity-sum.ensures;
      within = subst (λ s. g.Self.Body.is_within body s 0) (sym c.identity-sum.ensures) (g.Self.Body.laws body).identity_within;
    }

pub extend_long-sum-requires : goal.extend_long-sum-requires
extend_long-sum-requires g c = record {
  count = c.loop-i.i;
  count_within = c.loop-i.invariant.within;
  few = omega (arith, c.loop-i-test.true);
}

pub loop-i-preserved : goal.loop-i-preserved
loop-i-preserved g c =
    let body = c.args.self.now in
    let o = g.Self.Body.operations body in
    let laws = g.Self.Body.laws body in
    let i = c.loop-i.i in
    let e : IsElement (slice_index_or c.args.xs.now i (pos 0)) = search rules in
    let read = to_z-of_z w64 _ e in
    record {
      so_far = one_more o c.args.xs.now i c.loop-i.sum _ _ (omega (arith, c.requires, c.loop-i-test.true)) c.loop-i.invariant.so_far read c.extend_long-sum.ensures;
      within =
          more_within o (g.Self.Body.is_within body) c.loop-i.sum _ _ _ (i + 1) read c.extend_long-sum.ensures
          (laws.join_within c.loop-i.sum (o.lift (slice_index_or c.args.xs.now i (pos 0))) i 1 c.loop-i.invariant.within (laws.lift_within _ e) (omega (arith, c.loop-i-test.true)));
    }

pub returns-clause-fold : goal.returns-clause-fold
returns-clause-fold g c =
    let o = g.Self.Body.operations c.args.self.now in
    ◌∙◌ {b = fold_of o (take c.loop-i.i c.args.xs.now)} c.loop-i.invariant.so_far (ap (fold_of o) (take_all c.loop-i.i c.args.xs.now (omega (arith, c.requires, c.loop-i-test.false))))

pub returns-clause-within : goal.returns-clause-within
returns-clause-within g c =
    subst (g.Self.Body.is_within c.args.self.now c.loop-i.sum) (omega (arith, c.loop-i-test.false, c.loop-i.auto.i-end)) c.loop-i.invariant.within
