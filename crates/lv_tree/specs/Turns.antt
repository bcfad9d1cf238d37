-- The end of a range, or its start, at which a test on the fold of its elements becomes true.
use Rattle.std.specs.Prelude.{◌≡◌, ℕ, ℤ, Bool, true, false, ◌+◌, ◌-◌, ◌<◌, ◌≤◌, List, slice_range}
use Rattle.lv_bodies.specs.Body.{Operations, fold_of}

-- the end at which a test on the fold of a range from lo on becomes true: it passes there, and not with one element less, unless that
-- leaves none
pub record IsEndAt {S : Type 0} (o : Operations S) (test : S → Bool) (xs : List ℤ) (lo hi end : ℕ) : Type 0 where
  pub after : lo < end
  pub inside : end ≤ hi
  pub passes : test (fold_of o (slice_range xs lo end)) ≡ true
  pub before : lo < end - 1 → test (fold_of o (slice_range xs lo (end - 1))) ≡ false

-- it passes at none of them that was looked at: not with the whole range
abbrev pub HasNoEnd : {S : Type 0} → Operations S → (S → Bool) → List ℤ → ℕ → ℕ → Type 0
HasNoEnd o test xs lo hi = lo < hi → test (fold_of o (slice_range xs lo hi)) ≡ false

-- the start at which a test on the fold of a range up to hi becomes true: it passes there, and not with one element less, unless that leaves none
pub record IsStartAt {S : Type 0} (o : Operations S) (test : S → Bool) (xs : List ℤ) (lo hi start : ℕ) : Type 0 where
  pub inside : lo ≤ start
  pub before : start < hi
  pub passes : test (fold_of o (slice_range xs start hi)) ≡ true
  pub after : start + 1 < hi → test (fold_of o (slice_range xs (start + 1) hi)) ≡ false
