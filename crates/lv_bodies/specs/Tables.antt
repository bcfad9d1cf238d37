-- The operations of an automaton of eight states, by its table: a row has the state that is reached from each of the eight.
use Rattle.std.specs.Prelude.{◌≡◌, ℕ, ℤ, ◌<◌, Bool, ◌&&◌, nat_eq, nat_lt, List, length, map, All, slice_index}
use Rattle.std.specs.List.{list_all, range_with_len}
use Rattle.lv_bodies.specs.Body.{Operations}
use Rattle.lv_bodies.specs.Plain.{remainder}

-- whether each entry is one of the eight states
abbrev pub has_states : List (List ℕ) → Bool
has_states table = list_all (λ row. list_all (λ q. nat_lt q 8) row) table

-- whether a table has a row for each of the eight states, and only states in its rows
abbrev pub is_table : List (List ℕ) → Bool
is_table table = nat_eq (length table) 8 && has_states table

-- the states reached by an element: the column of the element modulo 4
abbrev pub column_of : List (List ℕ) → ℤ → List ℕ
column_of table x = map (λ row. slice_index row (remainder x 4)) table

-- the states reached by the first row, and from there by the second
abbrev pub join_state_maps : List ℕ → List ℕ → List ℕ
join_state_maps first second = map (λ q. slice_index second q) first

-- no elements leave each state as it is
abbrev pub automaton_operations : List (List ℕ) → Operations (List ℕ)
automaton_operations table = record {
  identity = range_with_len 0 8;
  lift = column_of table;
  join = join_state_maps;
}

-- a state for each of the eight, of however many elements
pub record IsStateMap (row : List ℕ) (n : ℕ) : Type 0 where
  pub eight : length row ≡ 8
  pub states : All (λ q. q < 8) row
