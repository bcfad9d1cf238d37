-- Proof of `push_joins`: puts the join of each eight summaries into an empty vector that has room for all.
use Rattle.std.proofs.Common.{◌≡◌, ◌*◌, fold, length, refl, ap, ◌∙◌, arith}
use Rattle.lv_refresh.proofs.SubtreeFolds.{eight_can_join, eight_joined, first_all, first_more, first_none}
use Rattle.lv_refresh.proofs.subtrees.push_joins.Goals as goal

pub loop-k-init : goal.loop-k-init
loop-k-init g c =
    record {
      first = first_none (g.B.Body.operations c.args.body.now) c.args._elements.now (8 * c.args._each) c.args.joins.now.items c.requires.empty;
      count = omega arith;
      capacity = refl;
    }

pub join_in_order-requires-clause-can_join : goal.join_in_order-requires-clause-can_join
join_in_order-requires-clause-can_join g c κs within =
    let body = c.args.body.now in
    rw c.eight_from-eight.ensures (eight_can_join (g.B.Body.operations body) (g.B.Body.is_within body) (g.B.Body.laws body) c.args._elements.now c.requires.can_fold c.args._each c.args.summaries.now c.requires.folds c.loop-k.k (omega (arith, c.loop-k-test.true)))

pub loop-k-preserved : goal.loop-k-preserved
loop-k-preserved g c =
    let body = c.args.body.now in
    let o = g.B.Body.operations body in
    let xs = c.args._elements.now in
    let k = c.loop-k.k in
    let kept = c.loop-k.invariant in
    let joined = eight_joined o (g.B.Body.is_within body) (g.B.Body.laws body) xs c.requires.can_fold c.args._each c.args.summaries.now c.requires.folds k (omega (arith, c.loop-k-test.true)) in
    let fold_is = c.join_in_order.ensures ∙ ap (fold o.join o.identity) c.eight_from-eight.ensures ∙ joined in
    record {
      first = rw c.push_reserved.ensures.items (first_more o xs (8 * c.args._each) k c.loop-k.joins.items c.join_in_order.result kept.first fold_is);
      count = omega (arith, c.push_reserved.ensures.len, kept.count);
      capacity = c.push_reserved.ensures.capacity ∙ kept.capacity;
    }

pub returns : goal.returns
returns g c =
    let each = c.args._each in
    let count : c.loop-k.k * 8 ≡ length c.args.summaries.now = omega (arith, c.loop-k.auto.k-end, c.loop-k-test.false, c.requires.eights) in
    let all : c.loop-k.k * (8 * each) ≡ length c.args._elements.now = omega (arith, ap (λ n. n * each) count, c.requires.folds.many) in
    first_all (g.B.Body.operations c.args.body.now) c.args._elements.now (8 * each) c.loop-k.k c.loop-k.joins.items c.loop-k.invariant.first all
