-- A table from what it leads to: for each state a row, and the same operations.
use Rattle.std.proofs.Common.{◌≡◌, ℕ, ℤ, zero, suc, pos, negsuc, ◌<◌, ◌≤◌, List, [], ◌∷◌, length, map, get_or, slice_index, refl, sym, ap, ◌∙◌, arith}
use Rattle.std.specs.Prelude.{All, IsTrue, fold}
use Rattle.std.specs.List.{range_with_len}
use Rattle.std.proofs.lemmas.List.Elements.{All-map}
use Rattle.lv_bodies.specs.ElementLaws.{All-range}
use Rattle.lv_bodies.specs.Plain.{remainder}
use Rattle.lv_bodies.specs.Six.{SixSummary, six_operations_by}
use Rattle.lv_bodies.specs.Tables.{column_of, is_table}
use Rattle.lv_shards.specs.Summaries.{AreLeads, IsSummaryOf, Summary, leads_of, rows_of}
use Rattle.lv_shards.specs.LeadsLaws.{row_at, state_fits}
use Rattle.lv_shards.proofs.Back.{four_are}

-- a row is what each of the four leads to
pub row_is : (leads : List (List ℕ)) (q : ℕ) → length leads ≡ 4
    → slice_index (get_or leads 0 []) q ∷ slice_index (get_or leads 1 []) q ∷ slice_index (get_or leads 2 []) q ∷ slice_index (get_or leads 3 []) q ∷ [] ≡ map (λ states. slice_index states q) leads
row_is leads q four = ap (map (λ states. slice_index states q)) (four_are leads four)

-- a list of eight is its elements
eight_are : (row : List ℕ) → length row ≡ 8 → map (λ q. slice_index row q) (range_with_len 0 8) ≡ row
eight_are [] e = absurd (omega (arith, e))
eight_are (a ∷ []) e = absurd (omega (arith, e))
eight_are (a ∷ b ∷ []) e = absurd (omega (arith, e))
eight_are (a ∷ b ∷ c ∷ []) e = absurd (omega (arith, e))
eight_are (a ∷ b ∷ c ∷ d ∷ []) e = absurd (omega (arith, e))
eight_are (a ∷ b ∷ c ∷ d ∷ x ∷ []) e = absurd (omega (arith, e))
eight_are (a ∷ b ∷ c ∷ d ∷ x ∷ y ∷ []) e = absurd (omega (arith, e))
eight_are (a ∷ b ∷ c ∷ d ∷ x ∷ y ∷ z ∷ []) e = absurd (omega (arith, e))
eight_are (a ∷ b ∷ c ∷ d ∷ x ∷ y ∷ z ∷ w ∷ []) e = refl
eight_are (a ∷ b ∷ c ∷ d ∷ x ∷ y ∷ z ∷ w ∷ v ∷ row) e = absurd (omega (arith, e))

same_four : (a b c d a' b' c' d' : List ℕ) → a ≡ a' → b ≡ b' → c ≡ c' → d ≡ d' → a ∷ b ∷ c ∷ d ∷ [] ≡ a' ∷ b' ∷ c' ∷ d' ∷ []
same_four a b c d a' b' c' d' p q r s = cc

-- of four lists the columns of their rows are these again
leads_of_four : (a b c d : List ℕ) → length a ≡ 8 → length b ≡ 8 → length c ≡ 8 → length d ≡ 8 → leads_of (rows_of (a ∷ b ∷ c ∷ d ∷ [])) ≡ a ∷ b ∷ c ∷ d ∷ []
leads_of_four a b c d p q r s = same_four _ _ _ _ a b c d (eight_are a p) (eight_are b q) (eight_are c r) (eight_are d s)

pub leads_again : (leads : List (List ℕ)) → AreLeads leads → leads_of (rows_of leads) ≡ leads
leads_again leads h =
    let is = four_are leads h.four in
    let eight = λ (k : ℕ) (below : k < 4). (row_at leads k h below).eight in
    ap (λ l. leads_of (rows_of l)) (sym is)
    ∙ leads_of_four (get_or leads 0 []) (get_or leads 1 []) (get_or leads 2 []) (get_or leads 3 []) (eight 0 (omega arith)) (eight 1 (omega arith)) (eight 2 (omega arith)) (eight 3 (omega arith))
    ∙ is

-- each entry of the rows is a state
pub rows_are_states : (leads : List (List ℕ)) → AreLeads leads → All (All (λ q. q ≤ 7)) (rows_of leads)
rows_are_states leads h =
    All-map (All (λ q. q ≤ 7)) (λ q. map (λ states. slice_index states q) leads) (range_with_len 0 8)
    (All-range (λ q. All (λ s. s ≤ 7) (map (λ states. slice_index states q) leads)) 8 (λ q below.
    All-map (λ s. s ≤ 7) (λ states. slice_index states q) leads (λ k d within.
    let fits = state_fits (get_or leads k d) 0 (h.states k d within) q in
    omega (arith, fits))))

-- ---- two tables that lead to the same states

-- by a remainder, a table leads to the states that are listed for it
at_remainder : (table : List (List ℕ)) (n : ℕ) → n < 4 → map (λ row. slice_index row n) table ≡ get_or (leads_of table) n []
at_remainder table zero below = refl
at_remainder table (suc zero) below = refl
at_remainder table (suc (suc zero)) below = refl
at_remainder table (suc (suc (suc zero))) below = refl
at_remainder table (suc (suc (suc (suc n)))) below = absurd (omega (arith, below))

remainder_below : (x : ℤ) → remainder x 4 < 4
remainder_below (pos n) = omega arith
remainder_below (negsuc n) = omega arith

same_columns : (t u : List (List ℕ)) (x : ℤ) → leads_of t ≡ leads_of u → column_of t x ≡ column_of u x
same_columns t u x e =
    at_remainder t (remainder x 4) (remainder_below x) ∙ ap (λ leads. get_or leads (remainder x 4) []) e ∙ sym (at_remainder u (remainder x 4) (remainder_below x))

same_lifts : (t u : List (List ℕ)) (x : ℤ) → leads_of t ≡ leads_of u → (six_operations_by t).lift x ≡ (six_operations_by u).lift x
same_lifts t u x e = let lift = (six_operations_by t).lift x in ap (λ c. (lift.0, (lift.1.0, (lift.1.1.0, (lift.1.1.1.0, (lift.1.1.1.1.0, c)))))) (same_columns t u x e)

same_from : (t u : List (List ℕ)) (s : SixSummary) (xs : List ℤ) → leads_of t ≡ leads_of u
    → fold (λ r x. (six_operations_by t).join r ((six_operations_by t).lift x)) s xs ≡ fold (λ r x. (six_operations_by u).join r ((six_operations_by u).lift x)) s xs
same_from t u s [] e = refl
same_from t u s (x ∷ xs) e =
    let o = six_operations_by t in
    let p = six_operations_by u in
    same_from t u (o.join s (o.lift x)) xs e ∙ ap (λ l. fold (λ r y. p.join r (p.lift y)) (p.join s l) xs) (same_lifts t u x e)

-- a summary by a table is one by each that leads to the same states
pub by_other_table : (t u : List (List ℕ)) (xs : List ℤ) (s : Summary) → leads_of t ≡ leads_of u → IsTrue (is_table u) → IsSummaryOf t xs s → IsSummaryOf u xs s
by_other_table t u xs s e valid is = record {
  states = valid;
  elements = is.elements;
  count = is.count;
  six = is.six ∙ same_from t u (six_operations_by t).identity xs e;
  leads = is.leads ∙ e;
}
