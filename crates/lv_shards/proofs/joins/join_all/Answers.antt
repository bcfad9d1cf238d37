-- Proof of `join_all`: the summary of the elements of each part, in the order of the parts.
use Rattle.std.proofs.Common.{Ok, [], refl, zero-add}
use Rattle.lv_bodies.specs.Automata.{table_of}
use Rattle.lv_shards.specs.Summaries.{empty_of, leads_of}
use Rattle.lv_shards.proofs.InOrder.{granted_from, joined_from}
use Rattle.lv_shards.proofs.joins.join_all.Goals as goal

pub returns-clause-plain : goal.returns-clause-plain
returns-clause-plain c = λ lists are.
    rw c.join_from.ensures (joined_from (table_of c.args.automaton) [] (Ok c.empty.result) lists c.args.parts.now c.empty.ensures.summary are)

pub returns-clause-granted : goal.returns-clause-granted
returns-clause-granted c = λ all few.
    let leads = leads_of (table_of c.args.automaton) in
    rw (c.join_from.ensures, c.empty.ensures.empty) (granted_from leads (empty_of leads) c.args.parts.now refl all (rw zero-add few))
