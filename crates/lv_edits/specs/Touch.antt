-- The indices at which edits write, which edits touch a node, and when a node is full (*whole*).
use Rattle.std.specs.Prelude.{◌≡◌, ℕ, ℤ, ◌+◌, ◌*◌, ◌^◌, Bool, false, ◌&&◌, List, [], ◌∷◌, ◌++◌, length, take, drop, fold, slice_get, if◌then◌else◌}
use Rattle.std.specs.List.{Contains, list_any, range_with_len}
use Rattle.std.specs.Option.{option_map_or}
use Rattle.lv_geometry.specs.declared.nodes.Node.{Node}
use Rattle.lv_geometry.specs.Nodes.{covers, is_below, is_node}
use Rattle.lv_edits.specs.declared.edit.Edit.{Edit}
use Rattle.lv_edits.specs.declared.edit.Edit.TheVariants.{Push, Pop, Write, Reserve, Swap, Truncate}
use Rattle.lv_edits.specs.History.{list_of}

-- the indices at which an edit writes: a push writes at the end of the list, a write at its index, and a swap at both of its indices,
-- also if they are equal; pops, reserves and truncates write nowhere
abbrev pub indices_written : List ℤ → Edit → List ℕ
indices_written xs (Push x) = length xs ∷ []
indices_written xs Pop = []
indices_written xs (Write i x) = i ∷ []
indices_written xs (Reserve n) = []
indices_written xs (Swap i j) = i ∷ j ∷ []
indices_written xs (Truncate n) = []

-- the last of some edits wrote at an index
pub record LastWroteAt (edits : List Edit) (i : ℕ) : Type 0 where
  pub before : List Edit
  pub last : Edit
  pub all : edits ≡ before ++ last ∷ []
  pub there : Contains (indices_written (list_of before) last) i

-- whether an edit on a list touches a node: it writes at an index of the node
abbrev pub touches : List ℤ → Edit → Node → Bool
touches xs edit n = list_any (covers n) (indices_written xs edit)

-- whether edit j + 1 touches a node
abbrev pub touches_at : List Edit → Node → ℕ → Bool
touches_at edits n j = option_map_or (λ edit. touches (list_of (take j edits)) edit n) (slice_get edits j) false

-- the number of the last edit that touched a node, or 0 if none did
unfoldable pub touched_by : List Edit → Node → ℕ
touched_by edits n = fold (λ last j. if touches_at edits n j then j + 1 else last) 0 (range_with_len 0 (length edits))

-- whether a node is full: its level is from 1 to 6, and all its indices are below the size
abbrev pub is_whole : List Edit → Node → Bool
is_whole edits n = is_node n && is_below n (length (list_of edits))

-- the elements of a node, if it is full
abbrev pub elements_under : List Edit → Node → List ℤ
elements_under edits n = take (8 ^ n.level) (drop (n.number * 8 ^ n.level) (list_of edits))
