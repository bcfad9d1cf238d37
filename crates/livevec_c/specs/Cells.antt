-- The cells of a column of the caller's: plain values by one kind, laid out for C.
use Rattle.std.specs.Prelude.{ℕ, ℤ, pos, ◌+◌, Bool, true, false, Option, None, List, is_some, length, map, replicate, take, unwrap_or, if◌then◌else◌}
use Rattle.std.specs.List.{range_with_len}
use Rattle.lv_bodies.specs.AffineMaps.{affine_operations}
use Rattle.lv_bodies.specs.Plain.{plain_affine, plain_automaton, plain_best, plain_greatest, plain_least, plain_sum}
use Rattle.lv_bodies.specs.declared.affine.AffineMap.{AffineMap}
use Rattle.lv_bodies.specs.declared.best.RunTotals.{RunTotals}
use Rattle.lv_tree.specs.declared.kind_summaries.KindSummary.{KindSummary}
use Rattle.lv_tree.specs.declared.kind_summaries.KindSummary.TheVariants as part
use Rattle.livevec_c.specs.declared.cells.MapCell.{MapCell}
use Rattle.livevec_c.specs.declared.cells.StatesCell.{StatesCell}
use Rattle.livevec_c.specs.declared.cells.TotalCell.{TotalCell}
use Rattle.livevec_c.specs.declared.values.PlainValues.{PlainValues}
use Rattle.livevec_c.specs.Answers.{high_half, low_half, word_of}

-- the cell of some elements, by each kind: their plain value, 0 if they have none
abbrev pub least_cell : List ℤ → ℤ
least_cell xs = unwrap_or (plain_least xs) (pos 0)

abbrev pub greatest_cell : List ℤ → ℤ
greatest_cell xs = unwrap_or (plain_greatest xs) (pos 0)

abbrev pub total_cell : Option ℤ → TotalCell
total_cell best = record { low = low_half (unwrap_or best (pos 0)); high = high_half (unwrap_or best (pos 0)) }

abbrev pub best_cell : List ℤ → TotalCell
best_cell xs = total_cell (plain_best xs)

abbrev pub map_cell : ℕ → ℕ → MapCell
map_cell a b = record { a = a; b = b }

abbrev pub affine_cell : List ℤ → MapCell
affine_cell xs = map_cell (plain_affine xs).0 (plain_affine xs).1

abbrev pub states_cell : List ℕ → StatesCell
states_cell states = record { to = states }

abbrev pub automaton_cell : List (List ℕ) → List ℤ → StatesCell
automaton_cell table xs = states_cell (plain_automaton table xs)

-- the cell of some elements by all six kinds at once
abbrev pub values_cell : List (List ℕ) → List ℤ → PlainValues
values_cell table xs = record {
  sum = plain_sum xs;
  least = least_cell xs;
  greatest = greatest_cell xs;
  best_low = (best_cell xs).low;
  best_high = (best_cell xs).high;
  affine_a = (affine_cell xs).a;
  affine_b = (affine_cell xs).b;
  automaton = plain_automaton table xs;
  any = word_of (is_some (plain_least xs));
}

-- the own summary of each kind, taken from one of this kind
abbrev pub sum_in : KindSummary → ℕ
sum_in (part.Sum s) = s
sum_in _ = 0

abbrev pub least_in : KindSummary → Option ℤ
least_in (part.Least x) = x
least_in _ = None

abbrev pub greatest_in : KindSummary → Option ℤ
greatest_in (part.Greatest x) = x
greatest_in _ = None

abbrev pub best_in : KindSummary → Option RunTotals
best_in (part.Best r) = r
best_in _ = None

abbrev pub map_in : KindSummary → AffineMap
map_in (part.Affine m) = m
map_in _ = affine_operations.identity

abbrev pub states_in : KindSummary → List ℕ
states_in (part.Automaton states) = states
states_in _ = replicate 8 0

-- the column of a scan: for each element the cell of all up to it, with it or without it
abbrev pub column_of : {C : Type 0} → (List ℤ → C) → Bool → List ℤ → List C
column_of cell inclusive xs = map (λ i. cell (take (if inclusive then i + 1 else i) xs)) (range_with_len 0 (length xs))
