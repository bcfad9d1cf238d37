-- Proof of `ShardSummary::of_fold`: the summary of what some elements come to by each, as a vector had them after an edit.
use Rattle.lv_bodies.specs.Automata.{table_of}
use Rattle.lv_shards.proofs.Possible.{possible_fold}
use Rattle.lv_shards.proofs.shard.ShardSummary.of_fold.Goals as goal

pub invariant_of-result : goal.invariant_of-result
invariant_of-result c =
    rw c.leads_by.ensures (possible_fold (table_of c.args.automaton) c.args.count c.args.edit c.args.six c.args.automaton.valid c.tell_range.ensures c.requires)
