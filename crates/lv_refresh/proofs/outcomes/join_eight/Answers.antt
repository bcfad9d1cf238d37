-- Proof of `join_eight`: eight summaries joined from left to right.
use Rattle.std.proofs.Common.{arith}
use Rattle.lv_refresh.proofs.JoinLaws.{can_join_child}
use Rattle.lv_refresh.proofs.outcomes.join_eight.Goals as goal

pub combine-sum-requires : goal.combine-sum-requires
combine-sum-requires g c = rw c.identity.ensures (can_join_child _ _ (g.B.Body.laws c.args.body.now) c.args.summaries.now c.requires 0 (omega arith))

pub combine-sum-requires-2 : goal.combine-sum-requires-2
combine-sum-requires-2 g c = rw (c.combine-sum.ensures, c.identity.ensures) (can_join_child _ _ (g.B.Body.laws c.args.body.now) c.args.summaries.now c.requires 1 (omega arith))

pub combine-sum-requires-3 : goal.combine-sum-requires-3
combine-sum-requires-3 g c = rw (c.combine-sum-2.ensures, c.combine-sum.ensures, c.identity.ensures) (can_join_child _ _ (g.B.Body.laws c.args.body.now) c.args.summaries.now c.requires 2 (omega arith))

pub combine-sum-requires-4 : goal.combine-sum-requires-4
combine-sum-requires-4 g c = rw (c.combine-sum-3.ensures, c.combine-sum-2.ensures, c.combine-sum.ensures, c.identity.ensures) (can_join_child _ _ (g.B.Body.laws c.args.body.now) c.args.summaries.now c.requires 3 (omega arith))

pub combine-sum-requires-5 : goal.combine-sum-requires-5
combine-sum-requires-5 g c = rw (c.combine-sum-4.ensures, c.combine-sum-3.ensures, c.combine-sum-2.ensures, c.combine-sum.ensures, c.identity.ensures) (can_join_child _ _ (g.B.Body.laws c.args.body.now) c.args.summaries.now c.requires 4 (omega arith))

pub combine-sum-requires-6 : goal.combine-sum-requires-6
combine-sum-requires-6 g c = rw (c.combine-sum-5.ensures, c.combine-sum-4.ensures, c.combine-sum-3.ensures, c.combine-sum-2.ensures, c.combine-sum.ensures, c.identity.ensures) (can_join_child _ _ (g.B.Body.laws c.args.body.now) c.args.summaries.now c.requires 5 (omega arith))

pub combine-sum-requires-7 : goal.combine-sum-requires-7
combine-sum-requires-7 g c = rw (c.combine-sum-6.ensures, c.combine-sum-5.ensures, c.combine-sum-4.ensures, c.combine-sum-3.ensures, c.combine-sum-2.ensures, c.combine-sum.ensures, c.identity.ensures) (can_join_child _ _ (g.B.Body.laws c.args.body.now) c.args.summaries.now c.requires 6 (omega arith))

pub combine-requires : goal.combine-requires
combine-requires g c = rw (c.combine-sum-7.ensures, c.combine-sum-6.ensures, c.combine-sum-5.ensures, c.combine-sum-4.ensures, c.combine-sum-3.ensures, c.combine-sum-2.ensures, c.combine-sum.ensures, c.identity.ensures) (can_join_child _ _ (g.B.Body.laws c.args.body.now) c.args.summaries.now c.requires 7 (omega arith))
