-- What a search from one end of a range finds.
use Rattle.std.specs.Prelude.{ℕ, ℤ, ◌+◌, ◌-◌, ◌<◌, ◌≤◌, Option, Some, None, List, slice_range}
use Rattle.lv_tree.specs.Sought.{Misses}
use Rattle.lv_tree.specs.declared.sought.Sought.{Sought}

-- the end at which a range from lo on comes to have what is sought: one element less has nothing of it. It is the least such end, unless an
-- element more may take away what was there, as it may an ending
pub record IsFirstEnd (sought : Sought) (xs : List ℤ) (lo hi end : ℕ) : Type 0 where
  pub after : lo < end
  pub inside : end ≤ hi
  pub met : Misses sought (slice_range xs lo end) → ⊥
  pub missed : Misses sought (slice_range xs lo (end - 1))

-- such an end, or none if the whole range has nothing of what is sought
abbrev pub FindsEnd : Sought → List ℤ → ℕ → ℕ → Option ℕ → Type 0
FindsEnd sought xs lo hi None = Misses sought (slice_range xs lo hi)
FindsEnd sought xs lo hi (Some end) = IsFirstEnd sought xs lo hi end

-- the start at which a range up to hi comes to have what is sought: the greatest such start, unless an element more may take away what was
-- there, as it may a beginning
pub record IsLastStart (sought : Sought) (xs : List ℤ) (lo hi start : ℕ) : Type 0 where
  pub inside : lo ≤ start
  pub before : start < hi
  pub met : Misses sought (slice_range xs start hi) → ⊥
  pub missed : Misses sought (slice_range xs (start + 1) hi)

-- such a start, or none
abbrev pub FindsStart : Sought → List ℤ → ℕ → ℕ → Option ℕ → Type 0
FindsStart sought xs lo hi None = Misses sought (slice_range xs lo hi)
FindsStart sought xs lo hi (Some start) = IsLastStart sought xs lo hi start
