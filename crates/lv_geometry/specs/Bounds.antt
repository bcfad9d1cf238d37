-- The limits of a vector, as plain numbers.
use Rattle.std.specs.Prelude.{ℕ, ◌≤◌}

-- at most how many buckets are opened, and how many edits are accepted
pub record Bounds : Type 0 where
  pub buckets : ℕ
  pub edits : ℕ

-- limits that a vector may have: 17 buckets hold 1048568 cells, in 131071 blocks of eight, and 16777215 is 2 ^ 24 - 1
pub record AreAllowed (buckets edits : ℕ) : Type 0 where
  pub some_buckets : 1 ≤ buckets
  pub few_buckets : buckets ≤ 17
  pub some_edits : 1 ≤ edits
  pub few_edits : edits ≤ 16777215
