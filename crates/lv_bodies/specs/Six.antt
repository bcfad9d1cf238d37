-- All six bodies side by side, in the order of the kinds.
use Rattle.std.specs.Prelude.{ℕ, ℤ, Option, option_map, List}
use Rattle.lv_bodies.specs.Body.{Operations}
use Rattle.lv_bodies.specs.Plain.{program_table}
use Rattle.lv_bodies.specs.Pairs.{IsPairWithin, pair_operations}
use Rattle.lv_bodies.specs.Sums.{IsSum, sum_operations}
use Rattle.lv_bodies.specs.Extremes.{IsExtreme, least_operations, greatest_operations}
use Rattle.lv_bodies.specs.RunTotals.{IsBest, best_operations}
use Rattle.lv_bodies.specs.AffineMaps.{IsAffineMap, affine_operations}
use Rattle.lv_bodies.specs.Tables.{IsStateMap, automaton_operations}
use Rattle.lv_bodies.specs.declared.best.RunTotals.{RunTotals}
use Rattle.lv_bodies.specs.declared.affine.AffineMap.{AffineMap}
use Rattle.lv_bodies.specs.declared.kinds.Kind.{Kind}
use Rattle.lv_bodies.specs.declared.kinds.Kind.TheVariants.{Sum, Least, Greatest, Best, Affine, Automaton}
use Rattle.lv_bodies.specs.declared.kinds.Shown.{Shown}
use Rattle.lv_bodies.specs.declared.kinds.Shown.TheVariants as shown

-- the six summaries
abbrev pub SixSummary : Type 0
SixSummary = ℕ × (Option ℤ × (Option ℤ × (Option RunTotals × (AffineMap × List ℕ))))

-- each of the six by its own operations, with an automaton by a table
abbrev pub six_operations_by : List (List ℕ) → Operations SixSummary
six_operations_by table =
    pair_operations sum_operations
    (pair_operations least_operations
    (pair_operations greatest_operations
    (pair_operations best_operations
    (pair_operations affine_operations (automaton_operations table)))))

-- the six with the program's automaton
abbrev pub six_operations : Operations SixSummary
six_operations = six_operations_by program_table

-- whether each of the six can be that of so many elements
abbrev pub six_within : SixSummary → ℕ → Type 0
six_within = IsPairWithin IsSum (IsPairWithin IsExtreme (IsPairWithin IsExtreme (IsPairWithin IsBest (IsPairWithin IsAffineMap IsStateMap))))

-- how the summary of a kind is shown
abbrev pub face_of : Kind → SixSummary → Shown
face_of Sum s = shown.Sum s.0
face_of Least s = shown.Least s.1.0
face_of Greatest s = shown.Greatest s.1.1.0
face_of Best s = shown.Best (option_map (λ r. r.best) s.1.1.1.0)
face_of Affine s = shown.Affine s.1.1.1.1.0.a s.1.1.1.1.0.b
face_of Automaton s = shown.Automaton s.1.1.1.1.1
