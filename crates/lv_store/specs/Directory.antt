-- A two-level array: how many buckets are open, and what is in their cells, by index.
use Rattle.std.specs.Prelude.{ℕ, ◌+◌, ◌-◌, ◌*◌, ◌^◌, ◌++◌, List, [], ◌∷◌, max, take, replicate, slice_set}
use Rattle.lv_geometry.specs.Cells.{capacity_of}

-- the open buckets, and the cells of all of them, those of the first bucket first
pub record Cells (T : Type 0) : Type 0 where
  pub buckets : ℕ
  pub cells : List T

-- one more bucket, with a given value in each of its cells
abbrev pub with_bucket : {T : Type 0} → Cells T → T → Cells T
with_bucket c blank = record { buckets = c.buckets + 1; cells = c.cells ++ replicate (8 * 2 ^ c.buckets) blank }

-- buckets are added until there are so many in all, if there are fewer, with a given value in each of their cells
abbrev pub with_buckets : {T : Type 0} → Cells T → ℕ → T → Cells T
with_buckets c buckets blank =
    record {
      buckets = max c.buckets buckets;
      cells = c.cells ++ replicate (capacity_of buckets - capacity_of c.buckets) blank;
    }

-- only the first so many buckets
abbrev pub first_buckets : {T : Type 0} → Cells T → ℕ → Cells T
first_buckets c buckets = record { buckets = buckets; cells = take (capacity_of buckets) c.cells }

-- another value in the cell of an index
abbrev pub with_cell : {T : Type 0} → Cells T → ℕ → T → Cells T
with_cell c i x = record c { cells = slice_set c.cells i x }

-- values, one after another, in the places from an index on
abbrev pub with_run : {T : Type 0} → List T → ℕ → List T → List T
with_run cells i [] = cells
with_run cells i (x ∷ xs) = with_run (slice_set cells i x) (i + 1) xs
