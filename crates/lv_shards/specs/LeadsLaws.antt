-- The states that a table leads to, as states and as numbers.
use Rattle.std.proofs.Common.{◌≡◌, ℕ, ℤ, pos, ◌^◌, ◌<◌, List, [], ◌∷◌, length, get_or, refl, arith, inl, inr}
use Rattle.std.specs.Prelude.{IsTrue, All}
use Rattle.std.specs.Int.{w64, from_le_bytes, to_le_bytes}
use Rattle.std.proofs.lemmas.Bool.{cases_lt}
use Rattle.std.proofs.lemmas.Int.{ints}
use Rattle.std.proofs.lemmas.List.{get_or_past}
use Rattle.std.proofs.lemmas.List.Elements.{All-cons, All-nil}
use Rattle.std.proofs.lemmas.Nat.{le_bytes_8}
use Rattle.lv_geometry.specs.Elements.{IsElement}
use Rattle.lv_bodies.specs.TableLaws.{automaton_laws}
use Rattle.lv_bodies.specs.Tables.{IsStateMap, column_of, is_table}
use Rattle.lv_shards.specs.Bytes.{states_at}
use Rattle.lv_shards.specs.Summaries.{AreLeads, leads_of}

-- states are bytes
pub state_fits : (states : List ℕ) (n : ℕ) → IsStateMap states n → (i : ℕ) → get_or states i 0 < 8
state_fits states n h i =
    elim (cases_lt i (length states)) [
      | inl below ↦ h.states i 0 below
      | inr past ↦ omega (arith, get_or_past states i 0 past)
    ]

pub states_back : (states : List ℕ) (n k : ℕ) → IsStateMap states n → k ≡ from_le_bytes w64 states → to_le_bytes w64 k ≡ states
states_back states n k h e = le_bytes_8 states k h.eight (λ i. omega (arith, state_fits states n h i)) e

-- their number fits
pub states_short : (states : List ℕ) (n : ℕ) → IsStateMap states n → from_le_bytes w64 states < 2 ^ 64
states_short states n h =
    let fits = state_fits states n h in
    omega (arith, fits 0, fits 1, fits 2, fits 3, fits 4, fits 5, fits 6, fits 7)

-- each of the four rows is one of states
pub row_at : (leads : List (List ℕ)) (k : ℕ) → AreLeads leads → k < 4 → IsStateMap (get_or leads k []) 0
row_at leads k h below = h.states k [] (omega (arith, h.four))

-- the number of a row fits
pub row_short : (leads : List (List ℕ)) (k : ℕ) → AreLeads leads → k < 4 → states_at leads k < 2 ^ 64
row_short leads k h below = states_short (get_or leads k []) 0 (row_at leads k h below)

-- what holds of four rows holds of each
four_rows : (P : List ℕ → Type 0) (a b c d : List ℕ) → P a → P b → P c → P d → All P (a ∷ b ∷ c ∷ d ∷ [])
four_rows P a b c d of_a of_b of_c of_d = All-cons P a (b ∷ c ∷ d ∷ []) of_a (All-cons P b (c ∷ d ∷ []) of_b (All-cons P c (d ∷ []) of_c (All-cons P d [] of_d (All-nil P))))

-- the states that a table leads to
pub leads_of_table : (table : List (List ℕ)) → IsTrue (is_table table) → AreLeads (leads_of table)
leads_of_table table valid =
    let IsRow : List ℕ → Type 0 = λ row. IsStateMap row 0 in
    let at : (x : ℤ) → IsElement x → IsRow (column_of table x) = λ x e. let kept = (automaton_laws table valid).lift_within x e in record { eight = kept.eight; states = kept.states } in
    record {
      four = refl;
      states =
          four_rows IsRow (column_of table (pos 0)) (column_of table (pos 1)) (column_of table (pos 2)) (column_of table (pos 3))
          (at (pos 0) (omega (arith, ints))) (at (pos 1) (omega (arith, ints))) (at (pos 2) (omega (arith, ints))) (at (pos 3) (omega (arith, ints)));
    }
