-- Invariants of the fields of a store and of a two-level array.
use Rattle.std.specs.Prelude.{◌≡◌, ◌≢◌, ◌<◌, ℕ, ℤ, ◌≤◌, ◌*◌, ◌^◌, Bool, true, false, IfSome, List, length, map, All}
use Rattle.std.specs.List.{range_with_len}
use Rattle.lv_geometry.specs.Bounds.{AreAllowed}
use Rattle.lv_geometry.specs.Cells.{capacity_of}
use Rattle.lv_geometry.specs.Elements.{IsElement}
use Rattle.lv_store.specs.declared.descriptors.Writes.{Writes}
use Rattle.lv_store.specs.State.{StoreState, blocks_of}

-- the first bucket has 8 cells, each later one has twice as many as the one before it, and there are at most 17
pub record AreBuckets {T : Type 0} (buckets : List (List T)) : Type 0 where
  pub sizes : map length buckets ≡ map (λ k. 8 * 2 ^ k) (range_with_len 0 (length buckets))
  pub few : length buckets ≤ 17

-- a write of an element at a cell that is open if so many buckets are open
abbrev pub IsWrite : ℕ → ℕ × ℤ → Type 0
IsWrite buckets write = (write.0 < capacity_of buckets) × IsElement write.1

-- one or two such writes; if there are two, their indices differ
abbrev pub AreWrites : ℕ → Writes → Type 0
AreWrites buckets writes =
    IsWrite buckets writes.first × IfSome writes.second (λ write. IsWrite buckets write × (write.0 ≢ writes.first.0))

-- there is an element for every open cell and a version for every open block, within the limits; no version is greater than the number
-- of the last edit; and pending writes are at cells that are open
pub record IsStore (s : StoreState) : Type 0 where
  pub allowed : AreAllowed s.limits.buckets s.limits.edits
  pub few : s.buckets ≤ s.limits.buckets
  pub values : length s.values ≡ capacity_of s.buckets
  pub versions : length s.versions ≡ blocks_of s.buckets
  pub elements : All IsElement s.values
  pub past : All (λ version. version ≤ s.descriptor.edit) s.versions
  pub edits : s.descriptor.edit ≤ s.limits.edits
  pub size : s.descriptor.size ≤ capacity_of s.buckets
  pub pending : IfSome s.descriptor.pending (AreWrites s.buckets)

-- `end` is where a range is cut: at the first index that satisfies the test, or at the range's end if none does
pub record EndsBefore (is_taken : ℕ → Bool) (from to end : ℕ) : Type 0 where
  pub low : from ≤ end
  pub high : end ≤ to
  pub free : (i : ℕ) → from ≤ i → i < end → is_taken i ≡ false
  pub cut : end < to → is_taken end ≡ true
