-- Proof of `ShardSummary::join`: the summary of these elements, and then of those of another.
use Rattle.std.proofs.Common.{sym}
use Rattle.lv_shards.specs.Summaries.{Summary}
use Rattle.lv_shards.specs.declared.shard.ShardSummary.TheInside.{Inside}
use Rattle.lv_shards.proofs.TwoJoined.{end_to_end, too_long, were_same}
use Rattle.lv_shards.proofs.Possible.{possible_join}
use Rattle.lv_shards.proofs.shard.ShardSummary.join.Goals as goal

-- what the fields say
abbrev said : Inside → Summary
said a = record { count = a.count; edit = a.edit; six = a.six; leads = a.leads }

pub returns-then-self-right-clause-joined : goal.returns-then-self-right-clause-joined
returns-then-self-right-clause-joined c =
    rw (← c.self.view_is, ← c.right.view_is) (sym (too_long (said c.self.inside) (said c.right.inside) (were_same _ _ c.ne.ensures c.if-ne.false) c.if-self-right.true))

pub invariant_of-result : goal.invariant_of-result
invariant_of-result c = rw c.join_each.ensures (possible_join (said c.self.inside) (said c.right.inside) c.self.invariant c.right.invariant c.if-self-right.false)

pub returns-clause-end_to_end : goal.returns-clause-end_to_end
returns-clause-end_to_end c = λ table xs ys.
    rw (← c.self.view_is, ← c.right.view_is, c.join_each.ensures)
    (end_to_end table xs ys (said c.self.inside) (said c.right.inside) c.if-self-right.false)
