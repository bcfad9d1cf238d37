-- Proof of `Automaton::new`: the automaton of a table.
use Rattle.std.proofs.Common.{refl, ◌∙◌, sym}
use Rattle.lv_bodies.proofs.Entries.{some_above, none_above}
use Rattle.lv_bodies.proofs.automata.Automaton.new.Goals as goal

pub returns-else-table_has_states-clause-taken : goal.returns-else-table_has_states-clause-taken
returns-else-table_has_states-clause-taken c =
    let above = some_above c.args.table (sym c.table_has_states.ensures.states ∙ c.if-table_has_states.false) in
    ((λ e. absurd (cc)), (λ h. absurd (none_above c.args.table h above)))

pub returns-else-table_has_states-clause-refused :
    goal.returns-else-table_has_states-clause-refused
returns-else-table_has_states-clause-refused c =
    (λ _. some_above c.args.table (sym c.table_has_states.ensures.states ∙ c.if-table_has_states.false), λ _. refl)
