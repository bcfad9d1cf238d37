-- Proof of `join_in_order`: summaries joined from left to right.
use Rattle.std.proofs.Common.{arith}
use Rattle.lv_refresh.proofs.JoinLaws.{can_join_next}
use Rattle.lv_refresh.proofs.subtrees.join_in_order.Goals as goal

pub combine-sum-requires : goal.combine-sum-requires
combine-sum-requires g c =
    let can = c.requires.can_join in
    rw (c.loop-summary.invariant, c.summary-item.is) (can_join_next (g.B.Body.operations c.args.body.now) (g.B.Body.is_within c.args.body.now) (g.B.Body.laws c.args.body.now) c.args.summaries.now can.0 c.loop-summary.summary-index c.summary-item.result can.2 can.1 (omega (arith, c.loop-summary-test.true)))
