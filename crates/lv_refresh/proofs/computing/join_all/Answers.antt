-- Proof of `join_all`: the join of eight summaries, which are those of a node's children.
use Rattle.std.proofs.Common.{◌≡◌, sym, ◌∙◌, arith}
use Rattle.std.proofs.lemmas.Option.{slice_get_read}
use Rattle.lv_summary.proofs.FoldableLaws.{can_fold}
use Rattle.lv_refresh.proofs.ComputeLaws.{joins_all, joins_can, joins_more, joins_none}
use Rattle.lv_refresh.proofs.computing.join_all.Goals as goal

pub loop-k-init : goal.loop-k-init
loop-k-init g c =
    joins_none (g.B.Body.operations c.args.body.now) c.args.history.now.journal c.args.node c.identity-sum.result c.identity-sum.ensures

pub combine-sum-requires : goal.combine-sum-requires
combine-sum-requires g c =
    joins_can (g.B.Body.operations c.args.body.now) c.args.history.now.journal c.args._table.now c.requires.agrees
    (g.B.Body.is_within c.args.body.now) (g.B.Body.laws c.args.body.now) (can_fold c.args.history.now c.size-size.ensures.limits)
    c.args.node c.loop-k.k c.loop-k.sum c.index-summaries-k.result c.requires.above c.loop-k.invariant
    (sym (c.requires.entries c.loop-k.k c.loop-k-test.true) ∙ slice_get_read c.args.summaries.now 8 c.loop-k.k c.index-summaries-k.result (sym c.requires.eight) c.loop-k-test.true c.index-summaries-k.is)

pub loop-k-preserved : goal.loop-k-preserved
loop-k-preserved g c =
    joins_more (g.B.Body.operations c.args.body.now) c.args.history.now.journal c.args._table.now c.requires.agrees
    (g.B.Body.is_within c.args.body.now) (g.B.Body.laws c.args.body.now) (can_fold c.args.history.now c.size-size.ensures.limits)
    c.args.node c.loop-k.k c.loop-k.sum c.index-summaries-k.result c.combine-sum.result c.requires.above c.loop-k.invariant
    (sym (c.requires.entries c.loop-k.k c.loop-k-test.true) ∙ slice_get_read c.args.summaries.now 8 c.loop-k.k c.index-summaries-k.result (sym c.requires.eight) c.loop-k-test.true c.index-summaries-k.is) c.combine-sum.ensures

pub returns : goal.returns
returns g c =
    let all : c.loop-k.k ≡ 8 = omega (arith, c.loop-k.auto.k-end, c.loop-k-test.false) in
    joins_all (g.B.Body.operations c.args.body.now) c.args.history.now.journal c.args.node c.loop-k.sum c.requires.above (rw all at c.loop-k.invariant)
