-- Proof of `join_children`: the join of the summaries of a whole node's children, from left to right.
use Rattle.std.proofs.Common.{◌≡◌, sym, ap, ◌∙◌, arith}
use Rattle.std.proofs.lemmas.Bool.{and_parts}
use Rattle.lv_summary.specs.Table.{entry_in, fresh_in}
use Rattle.lv_summary.proofs.FoldableLaws.{can_fold}
use Rattle.lv_refresh.proofs.ComputeLaws.{child_is_fresh, joins_all, joins_can, joins_more, joins_none}
use Rattle.lv_refresh.proofs.GatherLaws.{children_fit}
use Rattle.lv_refresh.proofs.computing.join_children.Goals as goal

pub loop-k-init : goal.loop-k-init
loop-k-init g c =
    joins_none (g.B.Body.operations c.args.body.now) c.args.history.now.journal c.args.node c.identity-sum.result c.identity-sum.ensures

pub child-requires-clause-fits : goal.child-requires-clause-fits
child-requires-clause-fits g c =
    omega (arith, children_fit c.args.node c.args.table.now.size (and_parts _ _ c.requires.whole).1 c.requires.above, c.requires.agrees.size, c.size-size.ensures.limits.few)

pub summary-requires : goal.summary-requires
summary-requires g c =
    ap (fresh_in c.args.table.now) c.child.ensures
    ∙ child_is_fresh (g.B.Body.operations c.args.body.now) c.args.history.now.journal c.args.table.now c.requires.agrees c.args.node c.loop-k.k c.requires.above c.requires.ready c.loop-k-test.true

pub combine-sum-requires : goal.combine-sum-requires
combine-sum-requires g c =
    joins_can (g.B.Body.operations c.args.body.now) c.args.history.now.journal c.args.table.now c.requires.agrees
    (g.B.Body.is_within c.args.body.now) (g.B.Body.laws c.args.body.now) (can_fold c.args.history.now c.size-size.ensures.limits)
    c.args.node c.loop-k.k c.loop-k.sum c.summary.result c.requires.above c.loop-k.invariant
    (sym (ap (entry_in c.args.table.now) c.child.ensures) ∙ c.summary.ensures)

pub loop-k-preserved : goal.loop-k-preserved
loop-k-preserved g c =
    joins_more (g.B.Body.operations c.args.body.now) c.args.history.now.journal c.args.table.now c.requires.agrees
    (g.B.Body.is_within c.args.body.now) (g.B.Body.laws c.args.body.now) (can_fold c.args.history.now c.size-size.ensures.limits)
    c.args.node c.loop-k.k c.loop-k.sum c.summary.result c.combine-sum.result c.requires.above c.loop-k.invariant
    (sym (ap (entry_in c.args.table.now) c.child.ensures) ∙ c.summary.ensures) c.combine-sum.ensures

pub returns : goal.returns
returns g c =
    let all : c.loop-k.k ≡ 8 = omega (arith, c.loop-k.auto.k-end, c.loop-k-test.false) in
    joins_all (g.B.Body.operations c.args.body.now) c.args.history.now.journal c.args.node c.loop-k.sum c.requires.above (rw all at c.loop-k.invariant)
