-- Logs of elements: what a new one has, how it continues from updates that it no longer has, and what a log has that is continued.
use Rattle.std.proofs.Common.{inl}
use Rattle.std.specs.Prelude.{◌≡◌, ℕ, ℤ, ◌+◌, ◌-◌, List, [], Option, None, Some, length, map}
use Rattle.std.specs.Io.KnownBytes.{Appends}
use Rattle.lv_edits.specs.declared.edit.Edit.{Edit}
use Rattle.lv_edits.specs.declared.edit.Edit.TheVariants.{Push}
use Rattle.lv_edits.specs.History.{list_of}
use Rattle.lv_transcript.specs.declared.log_heading.LogHeading.{LogHeading}
use Rattle.lv_transcript.specs.Fronts.{AreTrueOf, Entry, HasElements, edits_in, elements_of}
use Rattle.lv_transcript.specs.Transcribing.{front_bytes_of}

-- an element, as an entry
abbrev pub pushed : ℤ → Entry
pushed x = inl (Push x)

-- the entries that represent elements
abbrev pub pushes_of_elements : List ℤ → List Entry
pushes_of_elements elements = map pushed elements

-- the text of a log that has elements, and no updates after them
abbrev pub log_text : LogHeading → List ℤ → List ℕ
log_text heading elements = front_bytes_of (Some heading) (pushes_of_elements elements)

-- a writer has received a log of elements, and nothing after them, since it had received what a new file has
abbrev pub HasLog : Option (List ℕ) → LogHeading → List ℤ → Option (List ℕ) → Type 0
HasLog made heading elements contents = Appends made contents (log_text heading elements)

-- how many updates came before a file with this heading; none came before a transcript
abbrev pub base_of : Option LogHeading → ℕ
base_of None = 0
base_of (Some heading) = heading.base

-- the number of the last update of such a file, which has so many; those that represent elements do not count
abbrev pub number_of : Option LogHeading → ℕ → ℕ
number_of heading edits = base_of heading + (edits - elements_of heading)

-- the heading of the log that continues after the updates of such a file
abbrev pub compacted : Option LogHeading → List Edit → LogHeading
compacted heading journal = record { base = number_of heading (length journal); elements = length (list_of journal) }

-- a log with this heading and these entries continues from the updates of a file: both lead to the same list, and their last updates have the same
-- number
pub record GoesOnFrom (heading : Option LogHeading) (journal : List Edit) (new : LogHeading) (entries : List Entry) : Type 0 where
  pub same_list : list_of (edits_in entries) ≡ list_of journal
  pub same_number : number_of (Some new) (length (edits_in entries)) ≡ number_of heading (length journal)

-- ---- how a log begins

-- a log that was there already: its first line, and its entries
pub record LogThere : Type 0 where
  pub heading : LogHeading
  pub entries : List Entry

-- the heading of the file, and the entries that were there, if it continues a log. If not, it begins a transcript
abbrev pub heading_of : Option LogThere → Option LogHeading
heading_of None = None
heading_of (Some log) = Some log.heading

abbrev pub there_of : Option LogThere → Option (List Entry)
there_of None = None
there_of (Some log) = Some log.entries

abbrev pub entries_there : Option LogThere → List Entry
entries_there None = []
entries_there (Some log) = log.entries

-- the updates among those entries
abbrev pub edits_there : Option LogThere → List Edit
edits_there log = edits_in (entries_there log)

-- what was there is a log that may be continued: its entries are true, and none of its elements is missing
pub record MayGoOn (log : Option LogThere) : Type 0 where
  pub all_true : AreTrueOf (heading_of log) (entries_there log)
  pub elements : HasElements (heading_of log) (entries_there log)

-- a log with this first line and these updates. It has none of the answers that may come between updates
abbrev pub log_of_edits : LogHeading → List Edit → LogThere
log_of_edits heading edits = record { heading = heading; entries = map inl edits }

-- edits are those of a log with this first line
abbrev pub IsLogOfEdits : LogHeading → List Edit → Type 0
IsLogOfEdits heading edits = MayGoOn (Some (log_of_edits heading edits))
