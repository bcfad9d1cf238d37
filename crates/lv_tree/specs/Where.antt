-- Positions in a range of a list: of its least and greatest element, its best run, and the like. Indices are those of the whole list, and the end
-- of a range is excluded.
use Rattle.std.specs.Prelude.{◌≡◌, ℕ, ℤ, ◌+◌, ◌<◌, ◌≤◌, ◌<ℤ◌, ◌≤ℤ◌, Option, Some, None, List, All, slice_get, slice_range}
use Rattle.lv_bodies.specs.Plain.{total}
use Rattle.lv_bodies.specs.declared.kinds.Kind.{Kind}
use Rattle.lv_bodies.specs.declared.kinds.Kind.TheVariants as kind
use Rattle.lv_tree.specs.declared.places.Bound.{Bound}
use Rattle.lv_tree.specs.declared.places.Bound.TheVariants.{AtLeast, AtMost}
use Rattle.lv_tree.specs.declared.places.Placed.{Placed}
use Rattle.lv_tree.specs.declared.places.Run.{Run}

-- the first least element of a range: it is at the index, no element of the range is below it, and those before it are above it
pub record IsFirstLeast (xs : List ℤ) (lo hi index : ℕ) (value : ℤ) : Type 0 where
  pub from : lo ≤ index
  pub before : index < hi
  pub stands : slice_get xs index ≡ Some value
  pub least : All (λ x. value ≤ℤ x) (slice_range xs lo hi)
  pub first : All (λ x. value <ℤ x) (slice_range xs lo index)

-- the first greatest element of a range: no element of the range is above it, and those before are below it
pub record IsFirstGreatest (xs : List ℤ) (lo hi index : ℕ) (value : ℤ) : Type 0 where
  pub from : lo ≤ index
  pub before : index < hi
  pub stands : slice_get xs index ≡ Some value
  pub greatest : All (λ x. x ≤ℤ value) (slice_range xs lo hi)
  pub first : All (λ x. x <ℤ value) (slice_range xs lo index)

-- the best run of a range, which has at least one element: no run adds up to more, every run that ends earlier adds up to less, and every run
-- that ends with it and starts later adds up to less
pub record IsBestRun (xs : List ℤ) (lo hi from to : ℕ) (sum : ℤ) : Type 0 where
  pub starts : lo ≤ from
  pub some : from < to
  pub ends : to ≤ hi
  pub adds_up : total (slice_range xs from to) ≡ sum
  pub greatest : (i j : ℕ) → lo ≤ i → i < j → j ≤ hi → total (slice_range xs i j) ≤ℤ sum
  pub least_end : (i j : ℕ) → lo ≤ i → i < j → j < to → total (slice_range xs i j) <ℤ sum
  pub greatest_start : (i : ℕ) → from < i → i < to → total (slice_range xs i to) <ℤ sum

-- the elements from lo up to the end add up to a sum at least, and up to no end before they do
pub record IsReached (xs : List ℤ) (lo hi : ℕ) (sum : ℤ) (end : ℕ) : Type 0 where
  pub from : lo ≤ end
  pub inside : end ≤ hi
  pub reaches : sum ≤ℤ total (slice_range xs lo end)
  pub least : (e : ℕ) → lo ≤ e → e < end → total (slice_range xs lo e) <ℤ sum

-- the elements from the start up to hi add up to a sum at least, and from no start behind it on do they
pub record IsReachedBack (xs : List ℤ) (lo hi : ℕ) (sum : ℤ) (start : ℕ) : Type 0 where
  pub from : lo ≤ start
  pub inside : start ≤ hi
  pub reaches : sum ≤ℤ total (slice_range xs start hi)
  pub greatest : (s : ℕ) → start < s → s ≤ hi → total (slice_range xs s hi) <ℤ sum

-- an element is within a bound: at least so great, or at most
abbrev pub IsWithin : Bound → ℤ → Type 0
IsWithin (AtLeast bound) x = bound ≤ℤ x
IsWithin (AtMost bound) x = x ≤ℤ bound

-- an element is outside a bound: it isn't within it
abbrev pub IsOutside : Bound → ℤ → Type 0
IsOutside (AtLeast bound) x = x <ℤ bound
IsOutside (AtMost bound) x = bound <ℤ x

-- the kind by which an element within a bound is looked for
abbrev pub kind_within : Bound → Kind
kind_within (AtLeast bound) = kind.Greatest
kind_within (AtMost bound) = kind.Least

-- the first element within a bound of a range is at the index: those of the range before it are outside
pub record IsFirstWithin (bound : Bound) (xs : List ℤ) (lo hi index : ℕ) : Type 0 where
  pub from : lo ≤ index
  pub before : index < hi
  pub within : (x : ℤ) × (slice_get xs index ≡ Some x) × IsWithin bound x
  pub first : All (IsOutside bound) (slice_range xs lo index)

-- the last element within a bound of a range is at the index: those of the range behind it are outside
pub record IsLastWithin (bound : Bound) (xs : List ℤ) (lo hi index : ℕ) : Type 0 where
  pub from : lo ≤ index
  pub before : index < hi
  pub within : (x : ℤ) × (slice_get xs index ≡ Some x) × IsWithin bound x
  pub last : All (IsOutside bound) (slice_range xs (index + 1) hi)

-- the position of the first least element, of the first greatest one and of the best run, or none if the range is empty
abbrev pub IsPlaceOfLeast : List ℤ → ℕ → ℕ → Option Placed → Type 0
IsPlaceOfLeast xs lo hi None = lo ≡ hi
IsPlaceOfLeast xs lo hi (Some p) = IsFirstLeast xs lo hi p.index p.value

abbrev pub IsPlaceOfGreatest : List ℤ → ℕ → ℕ → Option Placed → Type 0
IsPlaceOfGreatest xs lo hi None = lo ≡ hi
IsPlaceOfGreatest xs lo hi (Some p) = IsFirstGreatest xs lo hi p.index p.value

abbrev pub IsPlaceOfBest : List ℤ → ℕ → ℕ → Option Run → Type 0
IsPlaceOfBest xs lo hi None = lo ≡ hi
IsPlaceOfBest xs lo hi (Some r) = IsBestRun xs lo hi r.from r.to r.sum

-- the end, or the start, at which a sum is reached; none if it is reached up to no end, or from no start on
abbrev pub IsEndReached : List ℤ → ℕ → ℕ → ℤ → Option ℕ → Type 0
IsEndReached xs lo hi sum None = (e : ℕ) → lo ≤ e → e ≤ hi → total (slice_range xs lo e) <ℤ sum
IsEndReached xs lo hi sum (Some end) = IsReached xs lo hi sum end

abbrev pub IsStartReached : List ℤ → ℕ → ℕ → ℤ → Option ℕ → Type 0
IsStartReached xs lo hi sum None = (s : ℕ) → lo ≤ s → s ≤ hi → total (slice_range xs s hi) <ℤ sum
IsStartReached xs lo hi sum (Some start) = IsReachedBack xs lo hi sum start

-- the index of the first, or of the last, element within a bound, or none if no element of the range is within it
abbrev pub IsFirstIndex : Bound → List ℤ → ℕ → ℕ → Option ℕ → Type 0
IsFirstIndex bound xs lo hi None = All (IsOutside bound) (slice_range xs lo hi)
IsFirstIndex bound xs lo hi (Some index) = IsFirstWithin bound xs lo hi index

abbrev pub IsLastIndex : Bound → List ℤ → ℕ → ℕ → Option ℕ → Type 0
IsLastIndex bound xs lo hi None = All (IsOutside bound) (slice_range xs lo hi)
IsLastIndex bound xs lo hi (Some index) = IsLastWithin bound xs lo hi index
