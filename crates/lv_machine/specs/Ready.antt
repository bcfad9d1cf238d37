-- When the next step of a call can be done, in terms of numbers: what the code requires of a call under way.
use Rattle.std.specs.Prelude.{◌≡◌, ℕ, ◌+◌, ◌<◌, ◌≤◌, List, slice_set}
use Rattle.lv_edits.specs.declared.edit.Edit.{Edit}
use Rattle.lv_edits.specs.declared.edit.Edit.TheVariants.{Write}
use Rattle.lv_machine.specs.declared.tasks.Task.{Task}
use Rattle.lv_machine.specs.declared.tasks.Task.TheVariants as task
use Rattle.lv_machine.specs.declared.tasks.Keep.{Keep}
use Rattle.lv_machine.specs.declared.tasks.Parts.{Parts}
use Rattle.lv_machine.specs.declared.tasks.Walk.{Walk}
use Rattle.lv_machine.specs.History.{IsShortEdit}
use Rattle.lv_machine.specs.Calls.{place_of}
use Rattle.lv_machine.specs.Words.{cell_version, edit_of, part_value, part_version, size_of}

-- An index of twelve bits, if the update has one.
abbrev pub IsIndexShort : Edit → Type 0
IsIndexShort (Write i x) = i < 4096
IsIndexShort _ = Unit {0}

-- The descriptor after an update fits into a word.
pub record CanPack (look : ℕ) (edit : Edit) : Type 0 where
  pub short : IsShortEdit edit
  pub number : edit_of look + 1 < 16777216
  pub size : size_of look + 1 < 4096
  pub index : IsIndexShort edit

-- An aggregate is that of at most n elements.
pub record CoversAtMost {S : Type 0} (within : S → ℕ → Type 0) (s : S) (n : ℕ) : Type 0 where
  pub count : ℕ
  pub held : within s count
  pub most : count ≤ n

-- A walk is within its range, the range is within the indices, and the walk has counted no more than it passed.
pub record CanWalk {S : Type 0} (within : S → ℕ → Type 0) (walk : Walk S) : Type 0 where
  pub order : walk.at < walk.hi
  pub short : walk.hi ≤ 4088
  pub holds : CoversAtMost within walk.sum walk.at
  pub cells : walk.cells ≤ walk.at
  pub summaries : walk.summaries ≤ walk.at

-- A part can be taken. There are at most four, a whole block is left in the range, and with the last part the block's aggregate is that of at
-- most eight elements.
pub record CanTake {S : Type 0} (within : S → ℕ → Type 0) (count : ℕ) (whole_of : List ℕ → S) (walk : Walk S) (parts : Parts) (found : ℕ) : Type 0 where
  pub walks : CanWalk within walk
  pub block : walk.at + 8 ≤ walk.hi
  pub few : parts.number < 4
  pub whole : part_version found ≡ parts.version → count ≤ parts.number + 1 → CoversAtMost within (whole_of (slice_set parts.values parts.number (part_value found))) 8

-- A refresh can proceed with a cell.
pub record CanKeep {S : Type 0} (within : S → ℕ → Type 0) (keep : Keep S) (found : ℕ) : Type 0 where
  pub short : keep.at < 4088
  pub holds : CoversAtMost within keep.sum keep.at
  pub version : cell_version found < 16777216

module _ {S : Type 0} where
  -- The word that the step writes can be made.
  abbrev pub CanMake : ℕ → Task S → Type 0
  CanMake look (task.Exchange edit before) = CanPack look edit
  CanMake look (task.SumPart walk parts) = parts.number < 4
  CanMake look (task.KeepPart b parts) = parts.number < 4
  CanMake look _ = Unit {0}

  -- The step's word is among the words, and can be made.
  abbrev pub CanMove : ℕ → ℕ → Task S → Type 0
  CanMove n look t = (place_of look t < n) × CanMake look t

  -- What the step found can be returned, or combined with what was loaded.
  abbrev pub CanAdvance : (within : S → ℕ → Type 0) (count : ℕ) (whole_of : List ℕ → S) → Task S → ℕ → Type 0
  CanAdvance within count whole_of (task.ReadBefore edit i) found = cell_version found < 16777216
  CanAdvance within count whole_of (task.ReadCell i) found = cell_version found < 16777216
  CanAdvance within count whole_of (task.SumCell walk) found = CanWalk within walk × (cell_version found < 16777216)
  CanAdvance within count whole_of (task.SumMark walk) found = found < 16777216
  CanAdvance within count whole_of (task.SumPart walk parts) found = CanTake within count whole_of walk parts found
  CanAdvance within count whole_of (task.KeepMark b) found = (b < 511) × (found < 16777216)
  CanAdvance within count whole_of (task.KeepCell keep) found = CanKeep within keep found
  CanAdvance within count whole_of (task.KeepPart b parts) found = parts.number < 4
  CanAdvance within count whole_of _ found = Unit {0}
