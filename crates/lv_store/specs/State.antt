-- The state of a store, and what it returns for an index and for a block.
use Rattle.std.specs.Prelude.{◌≡◌, ℕ, ℤ, pos, ◌+◌, ◌*◌, ◌/◌, ◌^◌, Option, Some, None, Bool, false, ◌||◌, List, [], ◌∷◌, ◌++◌, ◌-◌, map, max, replicate, slice_index, slice_set, nat_eq, if◌then◌else◌}
use Rattle.std.specs.List.{range_with_len, slice_index_or}
use Rattle.std.specs.Option.{option_map_or}
use Rattle.lv_geometry.specs.Bounds.{Bounds}
use Rattle.lv_geometry.specs.Cells.{AreFewest, capacity_of}
use Rattle.lv_store.specs.declared.descriptors.Descriptor.{Descriptor}
use Rattle.lv_store.specs.declared.descriptors.Writes.{Writes}

-- its limits, its descriptor, how many buckets are open, the element in each open cell, and for each open block the number of the
-- last edit whose write was completed there, or 0 if there was none
pub record StoreState : Type 0 where
  pub limits : Bounds
  pub descriptor : Descriptor
  pub buckets : ℕ
  pub values : List ℤ
  pub versions : List ℕ

-- how many blocks k open buckets have: the first has one, and each later bucket has twice as many as the one before it
abbrev pub blocks_of : ℕ → ℕ
blocks_of k = 2 ^ k - 1

-- whether a write, if there is one, is at an index
abbrev pub is_at : ℕ → Option (ℕ × ℤ) → Bool
is_at i None = false
is_at i (Some write) = nat_eq write.0 i

-- the element at an index after a write, if there is one
abbrev pub written : Option (ℕ × ℤ) → ℕ → ℤ → ℤ
written None i x = x
written (Some write) i x = if nat_eq write.0 i then write.1 else x

-- whether one of an edit's writes, if it has any, is at an index
abbrev pub are_at : ℕ → Option Writes → Bool
are_at i None = false
are_at i (Some writes) = is_at i writes.second || is_at i (Some writes.first)

-- the element at an index after an edit's writes, if it has any
abbrev pub written_by : Option Writes → ℕ → ℤ → ℤ
written_by None i x = x
written_by (Some writes) i x = written writes.second i (written (Some writes.first) i x)

-- the element at an index: that of a pending write at the index, if there is one, or else the one in its cell; 0 if it has no open cell
abbrev pub value_in : StoreState → ℕ → ℤ
value_in s i = written_by s.descriptor.pending i (slice_index_or s.values i (pos 0))

-- the elements at all indices below the size
abbrev pub elements_of : StoreState → List ℤ
elements_of s = map (value_in s) (range_with_len 0 s.descriptor.size)

-- the eight indices of a block
abbrev pub indices_of : ℕ → List ℕ
indices_of block = range_with_len (8 * block) 8

-- whether a write, if there is one, is in a block
abbrev pub is_in : ℕ → Option (ℕ × ℤ) → Bool
is_in block write = option_map_or (λ w. nat_eq (w.0 / 8) block) write false

-- whether one of an edit's writes, if it has any, is in a block
abbrev pub are_in : ℕ → Option Writes → Bool
are_in block None = false
are_in block (Some writes) = is_in block writes.second || is_in block (Some writes.first)

-- the number of the last edit that wrote in a block, whether its write is pending or not; 0 if none did, as in a block that isn't open
abbrev pub block_version : StoreState → ℕ → ℕ
block_version s block = if are_in block s.descriptor.pending then s.descriptor.edit else slice_index s.versions block

-- an empty store, with no bucket open
abbrev pub empty_store : Bounds → StoreState
empty_store limits = record { limits = limits; descriptor = record { edit = 0; size = 0; pending = None }; buckets = 0; values = []; versions = [] }

-- the writes of an edit that announces a first and a second, or one, or none
abbrev pub writes_of : Option (ℕ × ℤ) → Option (ℕ × ℤ) → Option Writes
writes_of None second = None
writes_of (Some first) second = Some (record { first = first; second = second })

-- the store after one more edit, which announces two writes, or one, or none, and leaves this size
abbrev pub announced : StoreState → Option (ℕ × ℤ) → Option (ℕ × ℤ) → ℕ → StoreState
announced s first second size =
    record s { descriptor = record { edit = s.descriptor.edit + 1; size = size; pending = writes_of first second } }

-- the cells after a write, if there is one, is put into its cell
abbrev pub with_element : Option (ℕ × ℤ) → List ℤ → List ℤ
with_element None values = values
with_element (Some write) values = slice_set values write.0 write.1

-- the versions after an edit's number is put at the block of its write, if there is one
abbrev pub with_version : Option (ℕ × ℤ) → ℕ → List ℕ → List ℕ
with_version None edit versions = versions
with_version (Some write) edit versions = slice_set versions (write.0 / 8) edit

-- the versions after `edit` edits and one more for each of some values, which are put at the indices from `i` on
abbrev pub with_versions : List ℕ → ℕ → ℕ → List ℤ → List ℕ
with_versions versions i edit [] = versions
with_versions versions i edit (x ∷ xs) = with_versions (slice_set versions (i / 8) (edit + 1)) (i + 1) (edit + 1) xs

-- the store after the given writes of its last edit, if any, are put into their cells and its number at their blocks; none is pending then
abbrev pub completed : StoreState → Option Writes → StoreState
completed s None = s
completed s (Some writes) =
    record s {
      descriptor = record s.descriptor { pending = None };
      values = with_element writes.second (with_element (Some writes.first) s.values);
      versions = with_version writes.second s.descriptor.edit (with_version (Some writes.first) s.descriptor.edit s.versions);
    }

-- the store after its pending writes are completed
abbrev pub settled : StoreState → StoreState
settled s = completed s s.descriptor.pending

-- the store after one more edit, which announces a write at an index and is completed
abbrev pub written_through : StoreState → ℕ → ℤ → StoreState
written_through s i x = settled (announced s (Some (i, x)) None s.descriptor.size)

-- the store after one more edit, which announces a value at the end and is completed
abbrev pub pushed : StoreState → ℤ → StoreState
pushed s x = settled (announced s (Some (s.descriptor.size, x)) None (s.descriptor.size + 1))

-- the store after such an edit for each of some values, in order
abbrev pub pushed_all : StoreState → List ℤ → StoreState
pushed_all s [] = s
pushed_all s (x ∷ xs) = pushed_all (pushed s x) xs

-- buckets were opened until so many cells are open, if they weren't yet; the new cells are 0, and nothing else has changed
pub record Opens (old new : StoreState) (cells : ℕ) : Type 0 where
  pub buckets : (k : ℕ) → AreFewest cells k → new.buckets ≡ max old.buckets k
  pub values : new.values ≡ old.values ++ replicate (capacity_of new.buckets - capacity_of old.buckets) (pos 0)
  pub versions : new.versions ≡ old.versions ++ replicate (blocks_of new.buckets - blocks_of old.buckets) 0
  pub descriptor : new.descriptor ≡ old.descriptor
  pub limits : new.limits ≡ old.limits

-- two stores have the same limits, edit number and size, and the same element at each index
pub record AreAlike (s t : StoreState) : Type 0 where
  pub limits : t.limits ≡ s.limits
  pub edit : t.descriptor.edit ≡ s.descriptor.edit
  pub size : t.descriptor.size ≡ s.descriptor.size
  pub values : (i : ℕ) → value_in t i ≡ value_in s i
