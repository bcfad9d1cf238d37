-- The results of searches in a series, defined by its elements only: one index after the other is tried. The end of a range is excluded.
use Rattle.std.specs.Prelude.{ℕ, ℤ, ◌+◌, ◌-◌, Bool, Option, Some, List, reverse, find, int_le}
use Rattle.std.specs.List.{range_with_len}
use Rattle.std.specs.Option.{option_eq}
use Rattle.std.specs.Ordering.{int_eq}
use Rattle.lv_bodies.specs.Plain.{plain_best, plain_greatest, plain_least, total}
use Rattle.lv_standing.specs.Queries.{is_within}
use Rattle.lv_lines.specs.Grammar.{◌>>=◌}
use Rattle.lv_series.specs.Series.{Held, element_of, slice_of}
use Rattle.lv_script.specs.declared.long_commands.Search.{Search}
use Rattle.lv_script.specs.declared.long_commands.Search.TheVariants.{First, Last, Reach, Least, Greatest}

-- the indices from lo on, below hi
abbrev pub indices : ℕ → ℕ → List ℕ
indices lo hi = range_with_len lo (hi - lo)

-- the first or the last of these indices at which a test is true, if there is one
abbrev pub first_where : (ℕ → Bool) → ℕ → ℕ → Option ℕ
first_where test lo hi = find test (indices lo hi)

abbrev pub last_where : (ℕ → Bool) → ℕ → ℕ → Option ℕ
last_where test lo hi = find test (reverse (indices lo hi))

-- whether a number, if there is one, is the same as another
abbrev pub is_same : Option ℤ → Option ℤ → Bool
is_same a b = option_eq int_eq a b

-- the index that a search finds: of an element within a bound; the first end, at most hi, up to which the elements from lo on add up to at least
-- so much; or of the first element that is the least of the range, or the greatest
abbrev pub index_of : Search → Held → ℕ → ℕ → Option ℕ
index_of (First bound) h lo hi = first_where (λ i. is_within bound (element_of h i)) lo hi
index_of (Last bound) h lo hi = last_where (λ i. is_within bound (element_of h i)) lo hi
index_of (Reach sum) h lo hi = first_where (λ end. int_le sum (total (slice_of h lo end))) lo (hi + 1)
index_of Least h lo hi = first_where (λ i. is_same (Some (element_of h i)) (plain_least (slice_of h lo hi))) lo hi
index_of Greatest h lo hi = first_where (λ i. is_same (Some (element_of h i)) (plain_greatest (slice_of h lo hi))) lo hi

-- whether the elements from lo up to an end have a run with the greatest sum of the range; those from a start up to that end
abbrev pub ends_best : Held → ℕ → ℕ → ℕ → Bool
ends_best h lo hi end = is_same (plain_best (slice_of h lo end)) (plain_best (slice_of h lo hi))

abbrev pub begins_best : Held → ℕ → ℕ → ℕ → ℕ → Bool
begins_best h lo hi to start = is_same (plain_best (slice_of h start to)) (plain_best (slice_of h lo hi))

-- the run with the greatest sum, as its start and its end. Of several it is the one that ends first, and of those the shortest
abbrev pub best_run : Held → ℕ → ℕ → Option (ℕ × ℕ)
best_run h lo hi = do
  to ← first_where (ends_best h lo hi) (lo + 1) (hi + 1)
  from ← last_where (begins_best h lo hi to) lo to
  Some (from, to)
