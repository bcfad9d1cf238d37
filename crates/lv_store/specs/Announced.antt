-- The contents of a store after a list of announcements. An announcement is the writes of one edit, or none if it writes nothing.
use Rattle.std.specs.Prelude.{◌≡◌, ℕ, ℤ, pos, ◌+◌, Option, Some, None, Bool, false, List, [], ◌∷◌, length, fold, slice_get, if◌then◌else◌}
use Rattle.std.specs.List.{range_with_len}
use Rattle.std.specs.Option.{option_map_or}
use Rattle.lv_store.specs.declared.descriptors.Writes.{Writes}
use Rattle.lv_store.specs.State.{StoreState, are_in, block_version, value_in, writes_of, written_by}

-- the announcements of all edits, in order
abbrev pub Announcements : Type 0
Announcements = List (Option Writes)

-- the element that was announced last for an index, or 0 if none was
unfoldable pub last_value : Announcements → ℕ → ℤ
last_value announced i = fold (λ x writes. written_by writes i x) (pos 0) announced

-- whether edit j + 1 wrote in a block
abbrev pub writes_at : Announcements → ℕ → ℕ → Bool
writes_at announced block j = option_map_or (are_in block) (slice_get announced j) false

-- the number of the last edit that wrote in a block, or 0 if none did
unfoldable pub last_version : Announcements → ℕ → ℕ
last_version announced block = fold (λ last j. if writes_at announced block j then j + 1 else last) 0 (range_with_len 0 (length announced))

-- a store shows announcements: its edit number is how many there are, each element is the one that was announced last for its index,
-- and the version of each block is the number of the last edit that wrote in it
pub record Shows (s : StoreState) (announced : Announcements) : Type 0 where
  pub edit : s.descriptor.edit ≡ length announced
  pub values : (i : ℕ) → value_in s i ≡ last_value announced i
  pub versions : (block : ℕ) → block_version s block ≡ last_version announced block

-- the announcements of pushes: each value is announced at its index, and the first index is given
abbrev pub pushes_at : ℕ → List ℤ → Announcements
pushes_at i [] = []
pushes_at i (x ∷ xs) = writes_of (Some (i, x)) None ∷ pushes_at (i + 1) xs
