-- Proof of `ShardSummary::of_slice`: the summary of the elements of a slice.
use Rattle.std.proofs.Common.{None, length, refl, ◌∙◌, arith}
use Rattle.lv_bodies.specs.Automata.{table_of}
use Rattle.lv_shards.proofs.Possible.{possible_fold}
use Rattle.lv_shards.proofs.shard.ShardSummary.of_slice.Goals as goal

pub invariant_of-result : goal.invariant_of-result
invariant_of-result c =
    rw c.leads_by.ensures (possible_fold (table_of c.args.automaton) (length c.args.xs.now) None c.each.result c.args.automaton.valid tt record {
      xs = c.args.xs.now;
      can = record { few = omega arith; elements = c.fold_slice-six.ensures.elements };
      count_is = refl;
      six_is = c.each.ensures ∙ c.fold_slice-six.ensures.fold;
    })
