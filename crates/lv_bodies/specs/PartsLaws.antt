-- That the summary of eight short elements is the whole of its parts.
use Rattle.std.specs.Prelude.{◌≡◌, ℕ, ℤ, pos, ◌*◌, ◌/◌, ◌%◌, ◌^◌, ◌<◌, ◌≤◌, IsTrue, Some, None, List, [], ◌∷◌, length, All, slice_index}
use Rattle.std.specs.Option.{unwrap_or}
use Rattle.std.proofs.Common.{arith, ap, sym, ◌∙◌, refl, zero, suc}
use Rattle.std.proofs.lemmas.Int.{ints}
use Rattle.std.proofs.lemmas.Nat.{mod_below}
use Rattle.std.proofs.lemmas.List.{get_or_past}
use Rattle.std.proofs.lemmas.List.Elements.{All-nil, All-cons}
use Rattle.std.proofs.lemmas.List.FromFn.{fill_by_all}
use Rattle.lv_bodies.specs.Body.{fold_of}
use Rattle.lv_bodies.specs.FoldLaws.{fold_of-within}
use Rattle.lv_bodies.specs.Plain.{remainder, total}
use Rattle.lv_bodies.specs.RemainderLaws.{remainder_below}
use Rattle.lv_bodies.specs.Sums.{sum_operations}
use Rattle.lv_bodies.specs.SumLaws.{fold_of-sum}
use Rattle.lv_bodies.specs.Extremes.{OrderLaws, extreme_operations}
use Rattle.lv_bodies.specs.ExtremeLaws.{first_holds}
use Rattle.lv_bodies.specs.RunTotals.{totals_of, join_totals, best_operations}
use Rattle.lv_bodies.specs.TotalsLaws.{same_runs}
use Rattle.lv_bodies.specs.AffineMaps.{affine_operations, IsAffineMap}
use Rattle.lv_bodies.specs.AffineLaws.{same_lines, affine_laws}
use Rattle.lv_bodies.specs.Tables.{is_table, automaton_operations, IsStateMap}
use Rattle.lv_bodies.specs.TableLaws.{automaton_laws}
use Rattle.lv_bodies.specs.ShortLaws.{IsNear, near_total, widened-low, low-low, kept_of_eight, AreNear, near_of_one, near_with_more, can_fold}
use Rattle.lv_bodies.specs.Parts.{IsShort, low_32, widened, AreParts, HasParts, sum_parts, sum_of_parts, extreme_parts, extreme_of_parts, best_parts, best_of_parts, affine_parts, affine_of_parts, packed_states, states_in, automaton_parts, automaton_of_parts}

-- what holds of each of four numbers
all_four : (P : ℕ → Type 0) (a b c d : ℕ) → P a → P b → P c → P d → All P (a ∷ b ∷ c ∷ d ∷ [])
all_four P a b c d p q r s =
    All-cons P a (b ∷ c ∷ d ∷ []) p (All-cons P b (c ∷ d ∷ []) q (All-cons P c (d ∷ []) r (All-cons P d [] s (All-nil P))))

-- past two parts there is nothing
past_two : (a b k : ℕ) → 2 ≤ k → slice_index (a ∷ b ∷ 0 ∷ 0 ∷ []) k ≡ 0
past_two a b zero h = absurd (omega arith)
past_two a b (suc zero) h = absurd (omega arith)
past_two a b (suc (suc zero)) h = refl
past_two a b (suc (suc (suc zero))) h = refl
past_two a b (suc (suc (suc (suc k)))) h = refl

-- past one part there is nothing
past_one : (a k : ℕ) → 1 ≤ k → slice_index (a ∷ 0 ∷ 0 ∷ 0 ∷ []) k ≡ 0
past_one a zero h = absurd (omega arith)
past_one a (suc zero) h = refl
past_one a (suc (suc k)) h = past_two a 0 (suc (suc k)) (omega arith)

module _ {S : Type 0} where
  -- one part of 32 bits
  one_part : (part : S → ℕ) → ((s : S) → part s < 2 ^ 32) → AreParts 1 (λ s. part s ∷ 0 ∷ 0 ∷ 0 ∷ [])
  one_part part small = record {
    four = λ s. refl;
    below = λ s. all_four (λ p. p < 2 ^ 32) (part s) 0 0 0 (small s) (omega arith) (omega arith) (omega arith);
    unused = λ s. past_one (part s);
  }

  -- two parts of 32 bits
  two_parts : (a b : S → ℕ) → ((s : S) → a s < 2 ^ 32) → ((s : S) → b s < 2 ^ 32) → AreParts 2 (λ s. a s ∷ b s ∷ 0 ∷ 0 ∷ [])
  two_parts a b small_a small_b = record {
    four = λ s. refl;
    below = λ s. all_four (λ p. p < 2 ^ 32) (a s) (b s) 0 0 (small_a s) (small_b s) (omega arith) (omega arith);
    unused = λ s. past_two (a s) (b s);
  }

-- a sum has one part
pub sum-are_parts : AreParts 1 sum_parts
sum-are_parts = one_part (λ s. s % 2 ^ 32) (λ s. mod_below s (2 ^ 32) (omega arith))

-- the sum of eight short elements is the whole of its part
pub sum-has_parts : HasParts sum_parts sum_of_parts sum_operations
sum-has_parts xs eight short =
    let near = near_total xs eight short in
    ap (λ s. remainder (widened (s % 2 ^ 32)) (2 ^ 64)) (fold_of-sum xs)
    ∙ ap (λ bits. remainder (widened bits) (2 ^ 64)) (low-low (total xs) near)
    ∙ ap (λ x. remainder x (2 ^ 64)) (widened-low (total xs) near)
    ∙ sym (fold_of-sum xs)

-- the low 32 bits are below 2 ^ 32
low_below : (x : ℤ) → low_32 x < 2 ^ 32
low_below x = remainder_below x (2 ^ 32) (omega arith)

-- an extreme has one part
pub extreme-are_parts : AreParts 1 extreme_parts
extreme-are_parts = one_part (λ s. low_32 (unwrap_or s (pos 0))) (λ s. low_below (unwrap_or s (pos 0)))

-- the first of eight short elements is the whole of its part
pub extreme-has_parts : (first : ℤ → ℤ → ℤ) (last : ℤ) → OrderLaws first last → HasParts extreme_parts extreme_of_parts (extreme_operations first)
extreme-has_parts first last order xs eight short =
    let (x, is, kept) = kept_of_eight (λ x. x) first (λ x n. IsShort x) (λ x h. h) (λ x n y p q. first_holds first last order IsShort x y p q) xs eight short in
    let near : IsNear x 8 = omega (arith, ints) in
    ap (λ s. extreme_of_parts (extreme_parts s)) is ∙ ap Some (widened-low x near) ∙ sym is

-- a best run has four parts
pub best-are_parts : AreParts 4 best_parts
best-are_parts = record {
  four = elim [ None ↦ refl | Some run ↦ refl ];
  below = elim [
    | None ↦ all_four (λ p. p < 2 ^ 32) 0 0 0 0 (omega arith) (omega arith) (omega arith) (omega arith)
    | Some run ↦
        all_four (λ p. p < 2 ^ 32) (low_32 run.total) (low_32 run.prefix) (low_32 run.suffix) (low_32 run.best)
        (low_below run.total) (low_below run.prefix) (low_below run.suffix) (low_below run.best)
  ];
  unused = elim [
    | None ↦ λ k h. get_or_past (0 ∷ 0 ∷ 0 ∷ 0 ∷ []) k 0 h
    | Some run ↦ λ k h. get_or_past (best_parts (Some run)) k 0 h
  ];
}

-- the best run of eight short elements is the whole of its parts
pub best-has_parts : HasParts best_parts best_of_parts best_operations
best-has_parts xs eight short =
    let (run, is, near) = kept_of_eight totals_of join_totals AreNear near_of_one near_with_more xs eight short in
    let same =
    same_runs record { total = widened (low_32 run.total); prefix = widened (low_32 run.prefix); suffix = widened (low_32 run.suffix); best = widened (low_32 run.best) } run
    (widened-low run.total near.total) (widened-low run.prefix near.prefix) (widened-low run.suffix near.suffix) (widened-low run.best near.best) in
    ap (λ s. best_of_parts (best_parts s)) is ∙ ap Some same ∙ sym is

-- an affine map has two parts
pub affine-are_parts : AreParts 2 affine_parts
affine-are_parts = two_parts (λ p. p.a % 2 ^ 32) (λ p. p.b % 2 ^ 32) (λ p. mod_below p.a (2 ^ 32) (omega arith)) (λ p. mod_below p.b (2 ^ 32) (omega arith))

-- the map of eight short elements is the whole of its parts
pub affine-has_parts : HasParts affine_parts affine_of_parts affine_operations
affine-has_parts xs eight short =
    let within = fold_of-within affine_operations IsAffineMap affine_laws xs (can_fold xs eight short) in
    same_lines _ (fold_of affine_operations xs) (omega (arith, within.a)) (omega (arith, within.b))

-- the row of an automaton has one part
pub automaton-are_parts : AreParts 1 automaton_parts
automaton-are_parts = one_part packed_states (λ row. omega arith)

-- a state is that of its bits
state_read : (row : List ℕ) (q : ℕ) → q < 8 → slice_index row q < 8 → slice_index row q ≡ packed_states row / 2 ^ (3 * q) % 8
state_read row zero p small = omega arith
state_read row (suc zero) p small = omega arith
state_read row (suc (suc zero)) p small = omega arith
state_read row (suc (suc (suc zero))) p small = omega arith
state_read row (suc (suc (suc (suc zero)))) p small = omega arith
state_read row (suc (suc (suc (suc (suc zero))))) p small = omega arith
state_read row (suc (suc (suc (suc (suc (suc zero)))))) p small = omega arith
state_read row (suc (suc (suc (suc (suc (suc (suc zero))))))) p small = omega arith
state_read row (suc (suc (suc (suc (suc (suc (suc (suc q)))))))) p small = absurd (omega arith)

-- eight states that are packed are read back
row_read : (row : List ℕ) (n : ℕ) → IsStateMap row n → states_in (packed_states row) ≡ row
row_read row n h =
    sym (fill_by_all (λ q. packed_states row / 2 ^ (3 * q) % 8) row 8 0 h.eight (λ q p. state_read row q p (h.states q 0 (omega (arith, h.eight)))))

-- the row of eight short elements is the whole of its part
pub automaton-has_parts : (table : List (List ℕ)) → IsTrue (is_table table) → HasParts automaton_parts automaton_of_parts (automaton_operations table)
automaton-has_parts table valid xs eight short =
    row_read (fold_of (automaton_operations table) xs) (length xs)
    (fold_of-within (automaton_operations table) IsStateMap (automaton_laws table valid) xs (can_fold xs eight short))
