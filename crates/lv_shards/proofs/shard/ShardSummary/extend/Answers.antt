-- Proof of `ShardSummary::extend`.
use Rattle.std.proofs.Common.{length, sym, ◌∙◌}
use Rattle.lv_bodies.specs.Automata.{table_of}
use Rattle.lv_shards.proofs.Tables.{by_other_table}
use Rattle.lv_shards.proofs.TooLong.{only_too_long}
use Rattle.lv_shards.proofs.shard.ShardSummary.extend.Goals as goal

pub returns-clause-end_to_end : goal.returns-clause-end_to_end
returns-clause-end_to_end c = λ table ys is.
    c.join.ensures.end_to_end table ys c.args.xs.now is
    (by_other_table (table_of c.automaton_by-automaton.result) table c.args.xs.now c.of_slice.result (c.automaton_by-automaton.ensures.leads ∙ c.leads.ensures ∙ is.leads) is.states c.of_slice.ensures.summary)

pub returns-clause-too_long : goal.returns-clause-too_long
returns-clause-too_long c =
    (only_too_long c.args.self.now c.of_slice.result (length c.args.xs.now) c.join.result c.join.ensures.joined (sym (c.of_slice.ensures.summary.leads ∙ c.automaton_by-automaton.ensures.leads ∙ c.leads.ensures)) c.of_slice.ensures.summary.count).too_long

pub returns-clause-one_table : goal.returns-clause-one_table
returns-clause-one_table c =
    (only_too_long c.args.self.now c.of_slice.result (length c.args.xs.now) c.join.result c.join.ensures.joined (sym (c.of_slice.ensures.summary.leads ∙ c.automaton_by-automaton.ensures.leads ∙ c.leads.ensures)) c.of_slice.ensures.summary.count).one_table
