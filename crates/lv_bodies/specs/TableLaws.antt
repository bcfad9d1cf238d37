-- The laws of an automaton, and that its fold is the plain one.
use Rattle.std.specs.Prelude.{◌≡◌, ℕ, ℤ, ◌+◌, ◌<◌, IsTrue, true, nat_lt, List, [], ◌∷◌, length, map, fold, All, slice_index, refl}
use Rattle.std.specs.List.{list_all, range_with_len, slice_index_or}
use Rattle.std.proofs.Common.{arith, zero, suc, get_or, ap, sym, ◌∙◌, inl, inr}
use Rattle.std.proofs.lemmas.Bool.{cases_lt}
use Rattle.std.proofs.lemmas.Bool.Decides.{Decides-ltb, Decides-eqb}
use Rattle.std.proofs.lemmas.List.{get_or-map, length-map, get_or_past}
use Rattle.std.proofs.lemmas.List.Elements.{All-map, All-weaker}
use Rattle.std.proofs.lemmas.List.Folds.{map_fixed}
use Rattle.std.proofs.lemmas.List.Sums.{AllPass-from_list_all}
use Rattle.std.proofs.lemmas.List.FromFn.{get_or-range_with_len, fill_by_all}
use Rattle.lv_bodies.specs.Body.{BodyLaws, fold_of}
use Rattle.lv_bodies.specs.Plain.{remainder, state_from, plain_automaton}
use Rattle.lv_bodies.specs.ElementLaws.{map-map, map_alike, All-range}
use Rattle.lv_bodies.specs.EqualLaws.{both_true}
use Rattle.lv_bodies.specs.Tables.{is_table, column_of, join_state_maps, automaton_operations, IsStateMap}

-- what a row has for a state is a state, also past its end
state_below : (row : List ℕ) (q : ℕ) → All (λ s. s < 8) row → slice_index row q < 8
state_below row q states =
    elim (cases_lt q (length row)) [
      | inl within ↦ states q 0 within
      | inr past ↦ rw (get_or_past row q 0 past) (omega arith)
    ]

-- a table that passes the test has eight rows
pub eight_rows : (table : List (List ℕ)) → IsTrue (is_table table) → length table ≡ 8
eight_rows table h = (Decides-eqb (length table) 8).0 (both_true _ _ h).0

-- and states in its rows
pub all_states : (table : List (List ℕ)) → IsTrue (is_table table) → All (All (λ q. q < 8)) table
all_states table h =
    All-weaker (λ row. list_all (λ q. nat_lt q 8) row ≡ true) (All (λ q. q < 8))
    (λ row p. All-weaker (λ q. nat_lt q 8 ≡ true) (λ q. q < 8) (λ q. (Decides-ltb q 8).0) row (AllPass-from_list_all (λ q. nat_lt q 8) row p))
    table (AllPass-from_list_all (λ row. list_all (λ q. nat_lt q 8) row) table (both_true _ _ h).1)

-- the states reached by an element are a row
column_is_row : (table : List (List ℕ)) (x : ℤ) (n : ℕ) → IsTrue (is_table table) → IsStateMap (column_of table x) n
column_is_row table x n h = record {
  eight = length-map table _ ∙ eight_rows table h;
  states =
      All-map (λ q. q < 8) (λ row. slice_index row (remainder x 4)) table
      (All-weaker (All (λ q. q < 8)) (λ row. slice_index row (remainder x 4) < 8) (λ row. state_below row (remainder x 4)) table (all_states table h));
}

-- two rows are joined to a row
joined_is_row : (s t : List ℕ) (n m k : ℕ) → IsStateMap s n → IsStateMap t m → IsStateMap (join_state_maps s t) k
joined_is_row s t n m k p q = record {
  eight = length-map s (slice_index t) ∙ p.eight;
  states =
      All-map (λ r. r < 8) (slice_index t) s
      (All-weaker (λ r. r < 8) (λ r. slice_index t r < 8) (λ r _. state_below t r q.states) s p.states);
}

-- to go nowhere first changes nothing
identity_joined : (s : List ℕ) → length s ≡ 8 → join_state_maps (range_with_len 0 8) s ≡ s
identity_joined s h = sym (fill_by_all (slice_index s) s 8 0 h (λ k p. refl))

-- to go nowhere afterwards changes nothing
joined_identity : (s : List ℕ) → All (λ q. q < 8) s → join_state_maps s (range_with_len 0 8) ≡ s
joined_identity s h =
    map_fixed (slice_index (range_with_len 0 8)) s
    (All-weaker (λ q. q < 8) (λ q. slice_index (range_with_len 0 8) q ≡ q) (λ q p. get_or-range_with_len 0 8 q 0 p ∙ omega arith) s h)

-- of three rows the first two or the last two may be joined first
rows_associative : (s t u : List ℕ) → All (λ q. q < 8) s → length t ≡ 8 → join_state_maps (join_state_maps s t) u ≡ join_state_maps s (join_state_maps t u)
rows_associative s t u h eight =
    map-map (slice_index t) (slice_index u) s
    ∙ map_alike (λ q. slice_index u (slice_index t q)) (slice_index (join_state_maps t u)) s
    (All-weaker (λ q. q < 8) (λ q. slice_index u (slice_index t q) ≡ slice_index (join_state_maps t u) q)
    (λ q p. sym (get_or-map (slice_index u) t q 0 0 (omega arith))) s h)

-- an automaton meets the laws of a body
pub automaton_laws : (table : List (List ℕ)) → IsTrue (is_table table) → BodyLaws (automaton_operations table) IsStateMap
automaton_laws table valid = record {
  identity_within = record { eight = refl; states = All-range (λ q. q < 8) 8 (λ q h. h) };
  lift_within = λ x h. column_is_row table x 1 valid;
  join_within = λ s t n m p q few. joined_is_row s t n m (n + m) p q;
  left_identity = λ s n p few. identity_joined s p.eight;
  right_identity = λ s n p few. joined_identity s p.states;
  associative = λ s t u n m k p q r few. rows_associative s t u p.states q.eight;
}

-- what a column has for a state is the table's entry, also past its end
pub column_at : (table : List (List ℕ)) (c s : ℕ) → slice_index (map (λ row. slice_index row c) table) s ≡ slice_index (slice_index_or table s []) c
column_at [] c s = refl
column_at (row ∷ rows) c zero = refl
column_at (row ∷ rows) c (suc s) = column_at rows c s

-- a fold from the states g is, for each of them, the state that it goes to
rows_along : (table : List (List ℕ)) (g : ℕ → ℕ) (starts : List ℕ) (xs : List ℤ) → fold (λ s x. join_state_maps s (column_of table x)) (map g starts) xs ≡ map (λ q. state_from table (g q) xs) starts
rows_along table g starts [] = refl
rows_along table g starts (x ∷ xs) =
    let next = λ (q : ℕ). slice_index (slice_index_or table (g q) []) (remainder x 4) in
    ap (λ row. fold (λ s y. join_state_maps s (column_of table y)) row xs)
    (map-map g (slice_index (column_of table x)) starts
    ∙ map_alike (λ q. slice_index (column_of table x) (g q)) next starts (λ k d h. column_at table (remainder x 4) (g (get_or starts k d))))
    ∙ rows_along table next starts xs

-- the row of the fold is, for each state, the state that it goes to
pub fold_of-automaton : (table : List (List ℕ)) (xs : List ℤ) → fold_of (automaton_operations table) xs ≡ plain_automaton table xs
fold_of-automaton table xs = rows_along table (λ q. q) (range_with_len 0 8) xs
