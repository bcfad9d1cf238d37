-- The place of an index in the two-level array, and how many cells the buckets hold.
use Rattle.std.specs.Prelude.{◌≡◌, ℕ, ◌+◌, ◌-◌, ◌*◌, ◌^◌, ◌<◌, ◌≤◌}
use Rattle.lv_geometry.specs.declared.places.Place.{Place}

-- how many cells k open buckets hold: the first holds 8, and each later one twice as many as the one before it
abbrev pub capacity_of : ℕ → ℕ
capacity_of k = 8 * (2 ^ k - 1)

-- a place that exists: its cell is one of its bucket's
abbrev pub IsCell : Place → Type 0
IsCell p = p.cell < 8 * 2 ^ p.bucket

-- the index that is stored at a place: the number of cells in the earlier buckets, plus the cell in its own
abbrev pub index_of : Place → ℕ
index_of p = capacity_of p.bucket + p.cell

-- h is the number of the highest set bit of n
pub record IsHighestBit (n h : ℕ) : Type 0 where
  pub reached : 2 ^ h ≤ n
  pub last : n < 2 ^ (h + 1)

-- a place is that of index i: if h is the number of the highest set bit of i + 8, the bucket is h - 3 and the cell is i + 8 - 2 ^ h
pub record IsPlaceOf (i : ℕ) (p : Place) : Type 0 where
  pub bucket : IsHighestBit (i + 8) (p.bucket + 3)
  pub cell : i + 8 ≡ 2 ^ (p.bucket + 3) + p.cell

-- k is the least number of buckets that have room for n elements
pub record AreFewest (n k : ℕ) : Type 0 where
  pub enough : n ≤ capacity_of k
  pub fewest : (fewer : ℕ) → n ≤ capacity_of fewer → k ≤ fewer
