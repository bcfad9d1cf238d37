-- What the fields of `Summaries` keep, and how one of its levels is seen and changed.
use Rattle.std.specs.Prelude.{◌≡◌, ℕ, ◌+◌, ◌-◌, ◌*◌, ◌/◌, ◌%◌, ◌^◌, ◌<◌, ◌≤◌, ◌&&◌, true, false, Option, Some, List, [], ◌∷◌, ◌++◌, length, map, nat_le, nat_lt, replicate, slice_get, slice_index, slice_set, All, if◌then◌else◌}
use Rattle.std.specs.List.{range_with_len, slice_index_or}
use Rattle.lv_geometry.specs.declared.levels.Levels.{Levels}
use Rattle.lv_geometry.specs.declared.nodes.Node.{Node}
use Rattle.lv_geometry.specs.Levels.{thing_at}
use Rattle.lv_geometry.specs.Nodes.{is_node}
use Rattle.lv_summary.specs.Table.{Rows, Table, blocks_in, no_rows, rows_for, whole_in}

-- one level: its rows, for how many of them it has memory, and what a blank row has for a summary
pub record LevelState (S : Type 0) : Type 0 where
  pub rows : Rows S
  pub capacity : ℕ
  pub blank : S

-- a list, blank past what was written of it: its items, for how many of them it has memory, and its blank
pub record LateRowsState (S : Type 0) : Type 0 where
  pub items : List S
  pub capacity : ℕ
  pub blank : S

-- a list, made n long with copies of x if it is shorter
abbrev pub lengthened : {A : Type 0} → List A → ℕ → A → List A
lengthened xs n x = xs ++ replicate (n - length xs) x

-- a list of numbers, 0 past what was written of it: its items, and for how many of them it has memory
pub record LateNumbersState : Type 0 where
  pub items : List ℕ
  pub capacity : ℕ

-- the number at a place, if each item of a list has eight numbers
abbrev pub number_at : LateRowsState (List ℕ) → ℕ → ℕ
number_at eights k = slice_index (slice_index_or eights.items (k / 8) eights.blank) (k % 8)

-- the first so many numbers, eight to an item
abbrev pub numbers_in : LateRowsState (List ℕ) → ℕ → List ℕ
numbers_in eights count = map (number_at eights) (range_with_len 0 count)

-- eight neighbours of a list, from one on
abbrev pub AreEight : {A : Type 0} → List A → List A → ℕ → Type 0
AreEight eight xs first = (length eight ≡ 8) × ((k : ℕ) → k < 8 → slice_get eight k ≡ slice_get xs (first + k))

-- the item at a number in the pieces behind the first; the blank if nothing was written there
abbrev pub later_item : {S : Type 0} → List (List S) → ℕ → S → S
later_item later number blank =
    if nat_lt number 512 then blank else slice_index_or (slice_index_or later (number / 512 - 1) []) (number % 512) blank

-- the item at a number: in the first piece, or behind it
abbrev pub item_at : {S : Type 0} → List S → List (List S) → S → ℕ → S
item_at front later blank k = if nat_lt k 512 then slice_index_or front k blank else later_item later k blank

-- the first so many items of a list in pieces
abbrev pub in_pieces : {S : Type 0} → List S → List (List S) → S → ℕ → List S
in_pieces front later blank count = map (item_at front later blank) (range_with_len 0 count)

-- for how many items there is memory, by that of the first piece and how many there are behind it
abbrev pub room_in_pieces : ℕ → ℕ → ℕ
room_in_pieces capacity later = if nat_lt capacity 512 then capacity else 512 + 512 * later

-- eight neighbours behind the first piece, from one on
abbrev pub AreLaterEight : {S : Type 0} → List S → List (List S) → ℕ → Type 0
AreLaterEight {S} eight later first =
    (512 ≤ first) × (length eight ≡ 8) × ((k : ℕ) → k < 8 → (blank : S) → slice_get eight k ≡ Some (later_item later (first + k) blank))

-- a piece with an item at a place, and with blanks before it if nothing was written there
abbrev pub put_late : {S : Type 0} → List S → ℕ → S → S → List S
put_late written place s blank =
    if nat_lt place (length written) then slice_set written place s else lengthened written place blank ++ s ∷ []

-- a list with so many given items from a number on, each found by its place among them; all else is as before
pub record HasItems {A : Type 0} (old new : List A) (first count : ℕ) (item : ℕ → Option A) : Type 0 where
  pub long : length new ≡ length old
  pub item_is : (k : ℕ) → k < count → slice_get new (first + k) ≡ item k
  pub others : (k : ℕ) → (nat_le first k && nat_lt k (first + count)) ≡ false → slice_get new k ≡ slice_get old k

-- a list with the items of another from a number on; all else is as before
abbrev pub HasPart : {A : Type 0} → List A → List A → ℕ → List A → Type 0
HasPart old new first part = HasItems old new first (length part) (slice_get part)

-- rows with further ones, n in all, which nothing touched and for which nothing is kept
abbrev pub filled : {S : Type 0} → Rows S → ℕ → S → Rows S
filled rows n blank =
    record {
      touched = lengthened rows.touched n 0;
      stamps = lengthened rows.stamps n 0;
      kept = lengthened rows.kept n blank;
    }

-- six levels have the rows of others, whatever they have memory for
abbrev pub HaveSameRows : {S : Type 0} → Levels (LevelState S) → Levels (LevelState S) → Type 0
HaveSameRows old new = (level : ℕ) → 1 ≤ level → level ≤ 6 → (thing_at new level).rows ≡ (thing_at old level).rows

-- each of six levels has memory for so many rows
abbrev pub HaveRoom : {S : Type 0} → Levels (LevelState S) → Levels ℕ → Type 0
HaveRoom of rows = (level : ℕ) → 1 ≤ level → level ≤ 6 → thing_at rows level ≤ (thing_at of level).capacity

-- each of six levels has further rows, so many in all, with its own blank
abbrev pub AreFilled : {S : Type 0} → Levels (LevelState S) → Levels (LevelState S) → Levels ℕ → Type 0
AreFilled old new rows =
    (level : ℕ) → 1 ≤ level → level ≤ 6 → (thing_at new level).rows ≡ filled (thing_at old level).rows (thing_at rows level) (thing_at old level).blank

-- rows after an edit that touched the node of a number
abbrev pub with_touch : {S : Type 0} → Rows S → ℕ → ℕ → Rows S
with_touch rows number edit = record rows { touched = slice_set rows.touched number edit }

-- rows with a summary of a version for the node of a number
abbrev pub with_kept : {S : Type 0} → Rows S → ℕ → ℕ → S → Rows S
with_kept rows number version s =
    record rows { stamps = slice_set rows.stamps number (version + 1); kept = slice_set rows.kept number s }

-- rows with summaries of their nodes' touched numbers for nodes side by side, from one on; all else is as before
pub record KeepsRows {S : Type 0} (old new : Rows S) (first : ℕ) (summaries : List S) : Type 0 where
  pub touched : new.touched ≡ old.touched
  pub kept : HasPart old.kept new.kept first summaries
  pub stamps : HasItems old.stamps new.stamps first (length summaries) (λ k. Some (slice_index old.touched (first + k) + 1))

-- a table of six levels
abbrev pub table_of : {S : Type 0} → ℕ → Levels (LevelState S) → Table S
table_of size of =
    record {
      size = size;
      levels = of.level_1.rows ∷ of.level_2.rows ∷ of.level_3.rows ∷ of.level_4.rows ∷ of.level_5.rows ∷ of.level_6.rows ∷ [];
    }

-- a row of a level has its three parts, every index of the blocks has its row, and no edit is past the last that is possible
pub record IsLevel {S : Type 0} (blocks level : ℕ) (rows : Rows S) : Type 0 where
  pub stamps : length rows.stamps ≡ length rows.touched
  pub kept : length rows.kept ≡ length rows.touched
  pub covers : 8 * blocks ≤ length rows.touched * 8 ^ level
  pub edits : All (λ edit. edit ≤ 16777215) rows.touched

-- each of the six levels is such, and no index below the size is without its rows
pub record IsSound {S : Type 0} (t : Table S) : Type 0 where
  pub levels : (level : ℕ) → 1 ≤ level → level ≤ 6 → IsLevel (blocks_in t) level (slice_index_or t.levels (level - 1) no_rows)
  pub few : blocks_in t ≤ 131071
  pub size : t.size ≤ 8 * blocks_in t

-- a node is of the table, which is sound, and these are the rows of its level
pub record IsLevelOf {S : Type 0} (t : Table S) (n : Node) (rows : Rows S) : Type 0 where
  pub member : is_node n ≡ true
  pub level : rows ≡ rows_for t n
  pub sound : IsSound t

-- a node is whole, these are the rows of its level, and it has its row in them
pub record IsRowOf {S : Type 0} (t : Table S) (n : Node) (rows : Rows S) : Type 0 where
  pub whole : whole_in t n ≡ true
  pub level : rows ≡ rows_for t n
  pub touched : n.number < length rows.touched
  pub stamps : n.number < length rows.stamps
  pub kept : n.number < length rows.kept
  pub edit : slice_index rows.touched n.number ≤ 16777215
