-- Proof of `automaton_by`: the automaton that leads so.
use Rattle.std.proofs.Common.{◌≡◌, ◌≤◌, true, false, All, sym, ap, ◌∙◌, subst}
use Rattle.lv_shards.specs.Summaries.{leads_of}
use Rattle.lv_shards.proofs.Tables.{leads_again, rows_are_states}
use Rattle.lv_shards.proofs.extending.automaton_by.Goals as goal

pub unreachable-requires : goal.unreachable-requires
unreachable-requires c =
    let h = subst (All (All (λ q. q ≤ 7))) (sym c.rows_by.ensures) (rows_are_states c.args.leads.now c.requires) in
    let t : false ≡ true = c.in-Err.ensures.taken.1 h in
    absurd (cc)

pub returns-clause-leads : goal.returns-clause-leads
returns-clause-leads c = ap leads_of (c.in-Ok.ensures.table ∙ c.rows_by.ensures) ∙ leads_again c.args.leads.now c.requires
