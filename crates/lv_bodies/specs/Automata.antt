-- The table of an automaton.
use Rattle.std.specs.Prelude.{ℕ, List}
use Rattle.lv_bodies.specs.declared.automata.Automaton.{Automaton}

-- for each state, the states that are reached by the four remainders
abbrev pub table_of : Automaton → List (List ℕ)
table_of a = a.table
