-- That no two states that may be saved have the same bytes.
use Rattle.std.proofs.Common.{◌≡◌, ℕ, zero, suc, ℤ, pos, ◌+◌, ◌^◌, ◌<◌, Option, Some, None, List, [], length, map, get_or, slice_index, refl, sym, ap, ◌∙◌, arith, eqb-true}
use Rattle.std.specs.Prelude.{All, IfSome, IsTrue, is_some, nat_eq, unwrap_or, if◌then◌else◌}
use Rattle.std.specs.Int.{w64, cast_signed, cast_unsigned}
use Rattle.std.proofs.lemmas.Grind.{same_number_lists}
use Rattle.std.proofs.lemmas.Int.{to_z-of_z}
use Rattle.std.proofs.lemmas.List.{get_or-map, get_or_default, same_lists}
use Rattle.lv_geometry.specs.Elements.{IsElement}
use Rattle.lv_bodies.specs.EqualLaws.{both_true}
use Rattle.lv_bodies.specs.Tables.{column_of, has_states, is_table}
use Rattle.lv_saved.specs.Saved.{IsSaved, Saved, bytes_of, head_of, numbers_of}
use Rattle.lv_saved.proofs.NumberLaws.{of_elements, of_times}
use Rattle.lv_saved.proofs.PieceLaws.{length_sealed}
use Rattle.lv_saved.proofs.ShortLaws.{numbers_short, times_fit}
use Rattle.lv_shards.specs.Bytes.{number_in, sealed_by, spelled, states_at}
use Rattle.lv_shards.specs.LeadsLaws.{leads_of_table, row_at, states_back}
use Rattle.lv_shards.specs.SpelledLaws.{number_in_sealed}
use Rattle.lv_shards.specs.Summaries.{AreLeads, leads_of}

-- equal bytes come from equal numbers
same_numbers : (ms ns : List ℕ) → All (λ n. n < 2 ^ 64) ms → All (λ n. n < 2 ^ 64) ns → sealed_by (spelled ms) ≡ sealed_by (spelled ns) → ms ≡ ns
same_numbers ms ns short short' e =
    let many : length ms ≡ length ns = omega (arith, length_sealed ms, length_sealed ns, ap length e) in
    same_number_lists ms ns many (λ k below. sym (number_in_sealed ms k below short) ∙ ap (λ b. number_in b k) e ∙ number_in_sealed ns k (omega (arith, below, many)) short')

-- elements in two's complement
same_elements : (xs ys : List ℤ) → length xs ≡ length ys → All IsElement xs → All IsElement ys → ((k : ℕ) → k < length xs → cast_unsigned w64 (get_or xs k (pos 0)) ≡ cast_unsigned w64 (get_or ys k (pos 0))) → xs ≡ ys
same_elements xs ys many all all' e =
    same_lists xs ys many (λ k d below.
    let inside : k < length ys = omega (arith, below, many) in
    get_or_default xs k d (pos 0) below
    ∙ sym (to_z-of_z w64 (get_or xs k (pos 0)) (all k (pos 0) below))
    ∙ ap (cast_signed w64) (e k below)
    ∙ to_z-of_z w64 (get_or ys k (pos 0)) (all' k (pos 0) inside)
    ∙ get_or_default ys k (pos 0) d inside)

-- a row by its number
same_row : (leads other : List (List ℕ)) (c : ℕ) → AreLeads leads → AreLeads other → c < 4 → states_at leads c ≡ states_at other c → get_or leads c [] ≡ get_or other c []
same_row leads other c h h' below e = sym (states_back (get_or leads c []) 0 (states_at leads c) (row_at leads c h below) refl) ∙ states_back (get_or other c []) 0 (states_at leads c) (row_at other c h' below) e

-- columns by their place
same_column : (t u : List (List ℕ)) → column_of t (pos 0) ≡ column_of u (pos 0) → column_of t (pos 1) ≡ column_of u (pos 1) → column_of t (pos 2) ≡ column_of u (pos 2) → column_of t (pos 3) ≡ column_of u (pos 3)
    → (c : ℕ) → c < 4 → map (λ row. slice_index row c) t ≡ map (λ row. slice_index row c) u
same_column t u p q r s zero below = p
same_column t u p q r s (suc zero) below = q
same_column t u p q r s (suc (suc zero)) below = r
same_column t u p q r s (suc (suc (suc zero))) below = s
same_column t u p q r s (suc (suc (suc (suc n)))) below = absurd (omega (arith, below))

eight_rows : (table : List (List ℕ)) → IsTrue (is_table table) → length table ≡ 8
eight_rows table h = eqb-true (length table) 8 ((both_true (nat_eq (length table) 8) (has_states table) h).0)

-- a table is known by its columns
same_table : (t u : List (List ℕ)) → length t ≡ 8 → length u ≡ 8 → All (λ row. length row ≡ 4) t → All (λ row. length row ≡ 4) u → ((c : ℕ) → c < 4 → map (λ row. slice_index row c) t ≡ map (λ row. slice_index row c) u) → t ≡ u
same_table t u eight eight' four four' columns =
    same_lists t u (eight ∙ sym eight') (λ q d below.
    let inside : q < length u = omega (arith, below, eight, eight') in
    same_number_lists (get_or t q d) (get_or u q d) (four q d below ∙ sym (four' q d inside)) (λ c within.
    let at : ℕ → List ℕ → ℕ = λ k row. slice_index row k in
    sym (get_or-map (at c) t q d 0 below)
    ∙ ap (λ column. get_or column q 0) (columns c (omega (arith, within, four q d below)))
    ∙ get_or-map (at c) u q d 0 inside))

-- the form, by the times
abbrev form_by : Option (List ℤ) → ℕ
form_by times = if is_some times then 2 else 1

-- times, by the form and what they are
same_times : (t u : Option (List ℤ)) → form_by t ≡ form_by u → unwrap_or t [] ≡ unwrap_or u [] → t ≡ u
same_times None None form e = refl
same_times None (Some ys) form e = absurd (omega (arith, form))
same_times (Some xs) None form e = absurd (omega (arith, form))
same_times (Some xs) (Some ys) form e = ap Some e

many_times : (t u : Option (List ℤ)) (n m : ℕ) → n ≡ m → form_by t ≡ form_by u → IfSome t (λ xs. length xs ≡ n) → IfSome u (λ xs. length xs ≡ m) → length (unwrap_or t []) ≡ length (unwrap_or u [])
many_times None None n m e form p q = refl
many_times None (Some ys) n m e form p q = absurd (omega (arith, form))
many_times (Some xs) None n m e form p q = absurd (omega (arith, form))
many_times (Some xs) (Some ys) n m e form p q = p ∙ e ∙ sym q

same_saved : (s t : Saved) → s.table ≡ t.table → s.first ≡ t.first → s.edits ≡ t.edits → s.elements ≡ t.elements → s.times ≡ t.times → s ≡ t
same_saved s t p q r e f =
    ap (λ a. record s { table = a }) p ∙ ap (λ a. record s { table = t.table; first = a }) q ∙ ap (λ a. record s { table = t.table; first = t.first; edits = a }) r
    ∙ ap (λ a. record s { table = t.table; first = t.first; edits = t.edits; elements = a }) e ∙ ap (λ a. record t { times = a }) f

-- two states of the same numbers
module _ (s t : Saved) (h : IsSaved s) (h' : IsSaved t) (e : numbers_of s ≡ numbers_of t) where
  at : (k : ℕ) → get_or (numbers_of s) k 0 ≡ get_or (numbers_of t) k 0
  at k = ap (λ ns. get_or ns k 0) e

  forms : form_by s.times ≡ form_by t.times
  forms = at 2

  counts : length s.elements ≡ length t.elements
  counts = at 5

  tables : s.table ≡ t.table
  tables =
      let leads = leads_of_table s.table h.table in
      let leads' = leads_of_table t.table h'.table in
      same_table s.table t.table (eight_rows s.table h.table) (eight_rows t.table h'.table) h.rows h'.rows
      (same_column s.table t.table (same_row (leads_of s.table) (leads_of t.table) 0 leads leads' (omega arith) (at 6)) (same_row (leads_of s.table) (leads_of t.table) 1 leads leads' (omega arith) (at 7))
      (same_row (leads_of s.table) (leads_of t.table) 2 leads leads' (omega arith) (at 8)) (same_row (leads_of s.table) (leads_of t.table) 3 leads leads' (omega arith) (at 9)))

  elements : s.elements ≡ t.elements
  elements =
      same_elements s.elements t.elements counts h.elements h'.elements (λ k below.
      sym (of_elements (head_of s) s.elements (unwrap_or s.times []) (10 + k) k refl below) ∙ at (10 + k) ∙ of_elements (head_of t) t.elements (unwrap_or t.times []) (10 + k) k refl (omega (arith, below, counts)))

  times : unwrap_or s.times [] ≡ unwrap_or t.times []
  times =
      let many = many_times s.times t.times (length s.elements) (length t.elements) counts forms h.paired h'.paired in
      same_elements (unwrap_or s.times []) (unwrap_or t.times []) many (times_fit s.times h.times) (times_fit t.times h'.times) (λ k below.
      sym (of_times (head_of s) s.elements (unwrap_or s.times []) (10 + length s.elements + k) k refl below) ∙ at (10 + length s.elements + k)
      ∙ of_times (head_of t) t.elements (unwrap_or t.times []) (10 + length s.elements + k) k (omega (arith, counts)) (omega (arith, below, many)))

  pub same_state : s ≡ t
  same_state = same_saved s t tables (at 3) (at 4) elements (same_times s.times t.times forms times)

pub alone : (s t : Saved) → IsSaved s → IsSaved t → bytes_of s ≡ bytes_of t → s ≡ t
alone s t h h' e = same_state s t h h' (same_numbers (numbers_of s) (numbers_of t) (numbers_short s h) (numbers_short t h') e)
