-- The parameters of a lock-free vector, as plain data.
use Rattle.std.specs.Prelude.{ℕ, ℤ, ◌-◌, ◌^◌, ◌<◌, ◌≤◌, List}
use Rattle.lv_geometry.specs.Bounds.{AreAllowed, Bounds}

-- How a block's fold is stored: in how many words, and what each of them has of the fold of a list.
pub record Folding : Type 0 where
  pub parts : ℕ
  pub part : ℕ → List ℤ → ℕ

-- The limits, the number of actors, and how folds are stored.
pub record Terms : Type 0 where
  pub limits : Bounds
  pub seats : ℕ
  pub folding : Folding

-- Terms of the lock-free form: at most 9 buckets, which hold 4088 elements in 511 blocks, at most 8 actors, and at most 4 parts, each of 32 bits.
pub record AreTerms (t : Terms) : Type 0 where
  pub allowed : AreAllowed t.limits.buckets t.limits.edits
  pub few_buckets : t.limits.buckets ≤ 9
  pub few_seats : t.seats ≤ 8
  pub few_parts : t.folding.parts ≤ 4
  pub short_parts : (p : ℕ) (xs : List ℤ) → t.folding.part p xs < 4294967296

-- The number of blocks of eight cells.
abbrev pub blocks_of : Bounds → ℕ
blocks_of limits = 2 ^ limits.buckets - 1
