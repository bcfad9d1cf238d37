-- Proof of `ShardSummary::empty`: the summary of no elements.
use Rattle.lv_bodies.specs.Automata.{table_of}
use Rattle.lv_shards.specs.Summaries.{leads_of}
use Rattle.lv_shards.specs.LeadsLaws.{leads_of_table}
use Rattle.lv_shards.proofs.Possible.{possible_empty}
use Rattle.lv_shards.proofs.shard.ShardSummary.empty.Goals as goal

pub invariant_of-result : goal.invariant_of-result
invariant_of-result c =
    rw (c.leads_by.ensures, c.identity.ensures) (possible_empty (leads_of (table_of c.args.automaton)) (leads_of_table (table_of c.args.automaton) c.args.automaton.valid))
