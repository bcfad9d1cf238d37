-- The summary of some elements by one kind.
use Rattle.std.specs.Prelude.{ℕ, ℤ, List, option_map}
use Rattle.lv_bodies.specs.Body.{fold_of}
use Rattle.lv_bodies.specs.Plain.{program_table}
use Rattle.lv_bodies.specs.Six.{SixSummary, six_operations_by}
use Rattle.lv_bodies.specs.declared.kinds.Kind.{Kind}
use Rattle.lv_bodies.specs.declared.kinds.Kind.TheVariants as kind
use Rattle.lv_bodies.specs.declared.kinds.Shown.{Shown}
use Rattle.lv_bodies.specs.declared.kinds.Shown.TheVariants as shown
use Rattle.lv_tree.specs.declared.kind_summaries.KindSummary.{KindSummary}
use Rattle.lv_tree.specs.declared.kind_summaries.KindSummary.TheVariants.{Sum, Least, Greatest, Best, Affine, Automaton}

-- which kind a summary is of
abbrev pub kind_of : KindSummary → Kind
kind_of (Sum s) = kind.Sum
kind_of (Least s) = kind.Least
kind_of (Greatest s) = kind.Greatest
kind_of (Best s) = kind.Best
kind_of (Affine s) = kind.Affine
kind_of (Automaton s) = kind.Automaton

-- the summary of a kind among those of all six
abbrev pub part_of : Kind → SixSummary → KindSummary
part_of kind.Sum s = Sum s.0
part_of kind.Least s = Least s.1.0
part_of kind.Greatest s = Greatest s.1.1.0
part_of kind.Best s = Best s.1.1.1.0
part_of kind.Affine s = Affine s.1.1.1.1.0
part_of kind.Automaton s = Automaton s.1.1.1.1.1

-- what is shown of a summary
abbrev pub shown_of : KindSummary → Shown
shown_of (Sum s) = shown.Sum s
shown_of (Least s) = shown.Least s
shown_of (Greatest s) = shown.Greatest s
shown_of (Best s) = shown.Best (option_map (λ r. r.best) s)
shown_of (Affine s) = shown.Affine s.a s.b
shown_of (Automaton s) = shown.Automaton s

-- the summary of some elements by a kind, with an automaton by a table
abbrev pub summary_by : List (List ℕ) → Kind → List ℤ → KindSummary
summary_by table k xs = part_of k (fold_of (six_operations_by table) xs)

-- the summary of some elements by a kind, with the program's automaton
abbrev pub summary_of : Kind → List ℤ → KindSummary
summary_of k xs = summary_by program_table k xs
