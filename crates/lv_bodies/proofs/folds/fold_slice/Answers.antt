-- Proof of `fold_slice`: the left fold of a slice, without a copy of it.
use Rattle.std.proofs.Common.{◌≡◌, pos, rules, arith, take, All, slice_index_or, ap, sym, subst, ◌∙◌, w64}
use Rattle.std.proofs.lemmas.Int.{to_z-of_z}
use Rattle.std.proofs.lemmas.List.{take_all}
use Rattle.std.proofs.lemmas.List.Elements.{All-more, All-nil}
use Rattle.lv_geometry.specs.Elements.{IsElement}
use Rattle.lv_bodies.specs.Body.{fold_of}
use Rattle.lv_bodies.proofs.MoreFolds.{one_more}
use Rattle.lv_bodies.proofs.folds.fold_slice.Given.{Over}
use Rattle.lv_bodies.proofs.folds.fold_slice.Goals as goal

pub loop-x-init : goal.loop-x-init
loop-x-init g c =
    let body = c.args.body.now in
    record {
      so_far = c.identity-sum.ensures;
      within = subst (λ s. g.B.Body.is_within body s 0) (sym c.identity-sum.ensures) (g.B.Body.laws c.args.body.now).identity_within;
      elements = All-nil IsElement;
    }

pub fold_more-sum-requires-after_bounds : goal.fold_more-sum-requires-after_bounds
fold_more-sum-requires-after_bounds g c κs within = record {
  count = c.loop-x.x-index;
  count_within = c.loop-x.invariant.within;
  few = omega (arith, c.requires, c.loop-x-test.true);
}

pub loop-x-preserved : goal.loop-x-preserved
loop-x-preserved g c =
    let e : IsElement (slice_index_or c.args.xs.now c.loop-x.x-index (pos 0)) = search rules in
    record {
      so_far = one_more (g.B.Body.operations c.args.body.now) c.args.xs.now c.loop-x.x-index c.loop-x.sum _ _ c.loop-x-test.true c.loop-x.invariant.so_far (to_z-of_z w64 _ e) c.fold_more-sum.ensures.value;
      within = c.fold_more-sum.ensures.within c.loop-x.x-index c.loop-x.invariant.within (omega arith);
      elements = All-more IsElement c.args.xs.now c.loop-x.x-index (pos 0) (omega arith) c.loop-x.invariant.elements e;
    }

-- the loop has read all
all_read : (g : Over) (c : goal.After-loop-x g) → take c.loop-x.x-index c.args.xs.now ≡ c.args.xs.now
all_read g c = take_all c.loop-x.x-index c.args.xs.now c.loop-x-test.false

pub returns-clause-fold : goal.returns-clause-fold
returns-clause-fold g c =
    let o = g.B.Body.operations c.args.body.now in
    ◌∙◌ {b = fold_of o (take c.loop-x.x-index c.args.xs.now)} c.loop-x.invariant.so_far (ap (fold_of o) (all_read g c))

pub returns-clause-within : goal.returns-clause-within
returns-clause-within g c =
    subst (g.B.Body.is_within c.args.body.now c.loop-x.sum) (omega (arith, c.loop-x-test.false, c.loop-x.auto.x-index-end)) c.loop-x.invariant.within

pub returns-clause-elements : goal.returns-clause-elements
returns-clause-elements g c = subst (All IsElement) (all_read g c) c.loop-x.invariant.elements
