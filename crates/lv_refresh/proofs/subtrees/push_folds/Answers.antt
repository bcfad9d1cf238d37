-- Proof of `push_folds`: puts the fold of each eight elements into an empty vector that has room for all.
use Rattle.std.proofs.Common.{◌≡◌, ◌*◌, All, length, refl, ap, subst, ◌∙◌, arith}
use Rattle.std.proofs.lemmas.List.{take_all}
use Rattle.lv_geometry.specs.Elements.{IsElement}
use Rattle.lv_bodies.specs.Body.{fold_of}
use Rattle.lv_refresh.proofs.SubtreeFolds.{elements_more, elements_none, first_all, first_more, first_none}
use Rattle.lv_refresh.proofs.subtrees.push_folds.Goals as goal

pub loop-k-init : goal.loop-k-init
loop-k-init g c =
    record {
      first = first_none (g.B.Body.operations c.args.body.now) c.args.elements.now 8 c.args.folds.now.items c.requires.empty;
      elements = elements_none c.args.elements.now;
      count = omega arith;
      capacity = refl;
    }

pub loop-k-preserved : goal.loop-k-preserved
loop-k-preserved g c =
    let o = g.B.Body.operations c.args.body.now in
    let xs = c.args.elements.now in
    let k = c.loop-k.k in
    let kept = c.loop-k.invariant in
    let fold_is = c.fold_slice.ensures.fold ∙ ap (fold_of o) c.eight_from-block.ensures in
    record {
      first = rw c.push_reserved.ensures.items (first_more o xs 8 k c.loop-k.folds.items c.fold_slice.result kept.first fold_is);
      elements = elements_more xs k kept.elements (subst (All IsElement) c.eight_from-block.ensures c.fold_slice.ensures.elements);
      count = omega (arith, c.push_reserved.ensures.len, kept.count);
      capacity = c.push_reserved.ensures.capacity ∙ kept.capacity;
    }

pub returns-clause-folds : goal.returns-clause-folds
returns-clause-folds g c =
    let all : c.loop-k.k * 8 ≡ length c.args.elements.now = omega (arith, c.loop-k.auto.k-end, c.loop-k-test.false, c.requires.many) in
    first_all (g.B.Body.operations c.args.body.now) c.args.elements.now 8 c.loop-k.k c.loop-k.folds.items c.loop-k.invariant.first all

pub returns-clause-can_fold : goal.returns-clause-can_fold
returns-clause-can_fold g c =
    let all : 8 * c.loop-k.k ≡ length c.args.elements.now = omega (arith, c.loop-k.auto.k-end, c.loop-k-test.false, c.requires.many) in
    record {
      few = omega (arith, c.requires.many);
      elements = subst (All IsElement) (take_all (8 * c.loop-k.k) c.args.elements.now (omega arith)) c.loop-k.invariant.elements;
    }
