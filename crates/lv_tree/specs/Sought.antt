-- What a search looks for, and what a summary by a kind says of it.
use Rattle.std.specs.Prelude.{ℕ, ℤ, ◌<◌, ◌≤◌, ◌<ℤ◌, Option, None, List, length, take, drop, All, slice_range}
use Rattle.lv_bodies.specs.Plain.{total}
use Rattle.lv_bodies.specs.declared.best.RunTotals.{RunTotals}
use Rattle.lv_bodies.specs.declared.kinds.Kind.{Kind}
use Rattle.lv_bodies.specs.declared.kinds.Kind.TheVariants as kind
use Rattle.lv_tree.specs.declared.kind_summaries.KindSummary.{KindSummary}
use Rattle.lv_tree.specs.declared.kind_summaries.KindSummary.TheVariants.{Least, Greatest, Best}
use Rattle.lv_tree.specs.declared.places.Bound.{Bound}
use Rattle.lv_tree.specs.declared.places.Bound.TheVariants as bounds
use Rattle.lv_tree.specs.declared.sought.Sought.{Sought}
use Rattle.lv_tree.specs.declared.sought.Sought.TheVariants.{AtMost, AtLeast, Run, Beginning, Ending}

-- a list has nothing of what is sought: no element at most so great, or at least; no run that adds up to so much; no beginning, or no
-- ending, of one element at least that does
abbrev pub Misses : Sought → List ℤ → Type 0
Misses (AtMost bound) xs = All (λ x. bound <ℤ x) xs
Misses (AtLeast bound) xs = All (λ x. x <ℤ bound) xs
Misses (Run bound) xs = (i j : ℕ) → i < j → j ≤ length xs → total (slice_range xs i j) <ℤ bound
Misses (Beginning bound) xs = (j : ℕ) → 1 ≤ j → j ≤ length xs → total (take j xs) <ℤ bound
Misses (Ending bound) xs = (j : ℕ) → j < length xs → total (drop j xs) <ℤ bound

-- the kind by which it is looked for
abbrev pub kind_for : Sought → Kind
kind_for (AtMost bound) = kind.Least
kind_for (AtLeast bound) = kind.Greatest
kind_for (Run bound) = kind.Best
kind_for (Beginning bound) = kind.Best
kind_for (Ending bound) = kind.Best

-- an element within a bound, as what is sought
abbrev pub sought_within : Bound → Sought
sought_within (bounds.AtLeast bound) = AtLeast bound
sought_within (bounds.AtMost bound) = AtMost bound

-- the least element, the greatest element or the best run that a summary has, if it is of that kind
abbrev pub least_in : KindSummary → Option ℤ
least_in (Least s) = s
least_in _ = None

abbrev pub greatest_in : KindSummary → Option ℤ
greatest_in (Greatest s) = s
greatest_in _ = None

abbrev pub best_in : KindSummary → Option RunTotals
best_in (Best s) = s
best_in _ = None
