-- The log of a hub: the entries that came since it was last written, how its file begins, and what the file has.
use Rattle.std.proofs.Common.{inl, inr}
use Rattle.std.specs.Prelude.{◌≡◌, ◌⊎◌, ℕ, ℤ, ◌+◌, ◌<◌, ◌≤◌, ◌^◌, All, Bool, true, false, is_some, Option, Some, None, Result, Ok, Err, List, [], ◌∷◌, ◌++◌, drop, length, map, take}
use Rattle.lv_geometry.specs.Bounds.{Bounds}
use Rattle.lv_geometry.specs.Elements.{IsElement}
use Rattle.lv_edits.specs.declared.edit.Edit.{Edit}
use Rattle.lv_edits.specs.declared.edit.Edit.TheVariants.{Push}
use Rattle.lv_edits.specs.History.{list_of}
use Rattle.lv_lines.specs.declared.fault.Fault.{Fault}
use Rattle.std.specs.Io.KnownBytes.{Appends}
use mathlib.Core.List.{IsPrefix}
use Rattle.lv_hub.specs.declared.log_entry.LogEntry.{LogEntry}
use Rattle.lv_hub.specs.declared.log_entry.LogEntry.TheVariants as logged
use Rattle.lv_transcript.specs.declared.log_heading.LogHeading.{LogHeading}
use Rattle.lv_transcript.specs.Fronts.{AreTrueAfter, AreTrueOf, Entry, IsFrontOf, edits_in, entry_line}
use Rattle.lv_transcript.specs.Transcribing.{GotFrontOf, WasGivenOf, WritingState, all_entries, bytes_before, bytes_behind, whole_bytes}
use Rattle.lv_transcript.specs.Transcript.{ended}
use Rattle.lv_transcript.specs.Logs.{HasLog, LogThere, MayGoOn, edits_there, entries_there, heading_of, log_of_edits, there_of}
use Rattle.lv_history.specs.Numbering.{told_number}
use Rattle.lv_hub.specs.Renewing.{lasting, renewed_after}

-- ---- what came since

-- An entry as a transcript has it.
abbrev pub entry_of : LogEntry → Entry
entry_of (logged.Edit edit) = inl edit
entry_of (logged.Answer answer) = inr answer

-- The version of the last answer among some entries, or `last` if there is no answer.
abbrev pub last_after : ℕ → List Entry → ℕ
last_after last [] = last
last_after last (inl edit ∷ entries) = last_after last entries
last_after last (inr answer ∷ entries) = last_after answer.edit entries

-- These entries came after the first `from` updates of a journal: the later updates, in order, and the answers at their time.
pub record CameSince (journal : List Edit) (from : ℕ) (entries : List Entry) : Type 0 where
  pub within : from ≤ length journal
  pub edits_are : edits_in entries ≡ drop from journal
  pub all_true : AreTrueAfter (take from journal) from entries
  pub in_time : last_after from entries ≤ length journal

-- A tap, which collects entries for a log: after how many updates it began, its entries, for how many it has room, and how many entries came in
-- all, including those of earlier taps.
pub record TapState : Type 0 where
  pub from : ℕ
  pub entries : List LogEntry
  pub room : ℕ
  pub given : ℕ

-- There is room for one more entry.
abbrev pub HasPlace : TapState → Type 0
HasPlace t = (length t.entries + 1 ≤ t.room) × (t.given + 1 < 2 ^ 64)

-- The tap, with one more entry.
abbrev pub with_entry : LogEntry → TapState → TapState
with_entry entry t = record t { entries = t.entries ++ entry ∷ []; given = t.given + 1 }

-- The tap has what came since it began, of this journal.
abbrev pub Taps : List Edit → TapState → Type 0
Taps journal t = CameSince journal t.from (map entry_of t.entries)

-- ---- what the file has

-- A log: what was written and what is still buffered, the prefix of the hub's updates that it was given, and how many entries (updates and
-- answers) it was given in all.
pub record LogState : Type 0 where
  pub written : WritingState
  pub seen : List Edit
  pub taken : ℕ

-- Nothing is buffered, unless a write has failed.
abbrev pub HoldsNothing : WritingState → Type 0
HoldsNothing s = s.failed ≡ false → s.held ≡ []

-- The text that is written for these entries after what was there. A transcript also gets its last line.
abbrev pub text_behind : Option LogThere → List Entry → List ℕ
text_behind None entries = whole_bytes entries
text_behind (Some log) entries = ended (map entry_line entries)

-- How the writing of a log ended that was given these entries after what was there. Either their text was written, and the whole is then a log.
-- Or a write has failed, and what was written is a prefix.
abbrev pub EndsText : Option LogThere → Option (List ℕ) → Option (List ℕ) → List Entry → Result Unit Fault → Type 0
EndsText log start contents entries (Ok _) =
    Appends start contents (text_behind log entries)
    × (AreTrueOf (heading_of log) (all_entries (there_of log) entries) → IsFrontOf (heading_of log) (bytes_before (heading_of log) (there_of log) ++ text_behind log entries) (entries_there log ++ entries))
EndsText log start contents entries (Err fault) = AreTrueOf (heading_of log) (all_entries (there_of log) entries) → GotFrontOf (heading_of log) (there_of log) start contents entries

module _ (log : Option LogThere) (start : Option (List ℕ)) where
  -- What a log was given after what was there, with `start` as the contents of its writer at the beginning. The entries are true in the order of
  -- time, and their updates are all that were seen.
  pub record IsLogOf (s : LogState) : Type 0 where
    pub entries : List Entry
    pub goes_on : MayGoOn log
    pub given : WasGivenOf (heading_of log) (there_of log) start entries s.written
    pub all_true : AreTrueAfter (edits_there log) (length (edits_there log)) entries
    pub edits_are : edits_there log ++ edits_in entries ≡ s.seen
    pub in_time : last_after (length (edits_there log)) entries ≤ length s.seen

  -- What the writer has got since the start is a prefix of a transcript, or of a log, after what was there. Its answers are true, and its updates
  -- are a prefix of these.
  pub record HasFront (contents : Option (List ℕ)) (edits : List Edit) : Type 0 where
    pub entries : List Entry
    pub begins : IsPrefix (edits_there log ++ edits_in entries) edits
    pub got : GotFrontOf (heading_of log) (there_of log) start contents entries

  -- All updates of a journal were written: entries with just these updates, after what was there.
  pub record HasAll (contents : Option (List ℕ)) (journal : List Edit) : Type 0 where
    pub entries : List Entry
    pub edits_are : edits_there log ++ edits_in entries ≡ journal
    pub written : Appends start contents (bytes_behind (heading_of log) (there_of log) entries)

  -- A log was written completely: entries after what was there, true in the order of time, with all updates of a journal.
  pub record WroteWhole (contents : Option (List ℕ)) (journal : List Edit) : Type 0 where
    pub entries : List Entry
    pub edits_are : edits_there log ++ edits_in entries ≡ journal
    pub all_true : AreTrueAfter (edits_there log) (length (edits_there log)) entries
    pub written : Appends start contents (text_behind log entries)
    pub front : IsFrontOf (heading_of log) (bytes_before (heading_of log) (there_of log) ++ text_behind log entries) (entries_there log ++ entries)

  -- How a log ends. Either it is complete, or a write has failed and what was written is a prefix, whose updates are a prefix of the journal.
  abbrev pub LogEnds : Option (List ℕ) → List Edit → Result Unit Fault → Type 0
  LogEnds contents journal (Ok _) = WroteWhole contents journal
  LogEnds contents journal (Err fault) = HasFront contents journal

-- ---- a file that takes the place of another

-- A hub with these limits continues when the updates of its vector are used up. The vector has the other limits.
pub record AreLasting (limits vector : Bounds) : Type 0 where
  pub lasts : limits ≡ lasting vector
  pub many : vector.edits ≡ 16777215

-- The first line of the log that begins after the first n updates of a hub with this numbering.
abbrev pub heading_after : LogHeading → ℕ → List Edit → LogHeading
heading_after numbers n edits = record { base = told_number numbers n; elements = length (list_of (take n edits)) }

-- The contents of that log at first: a push of each element that there was.
abbrev pub log_after : LogHeading → ℕ → List Edit → LogThere
log_after numbers n edits = log_of_edits (heading_after numbers n edits) (map Push (list_of (take n edits)))

-- How a file begins that replaces another: with the elements after all updates of the hub, behind a first line with the number of the last of
-- these updates.
pub record BeginsAnew (limits : Bounds) (numbers : LogHeading) (edits : List Edit) (heading : LogHeading) (elements : List ℤ) : Type 0 where
  pub lasts : limits ≡ lasting limits
  pub heading_is : heading ≡ heading_after numbers (length edits) edits
  pub base : heading.base ≤ 2 ^ 62
  pub elements_are : elements ≡ list_of edits
  pub few : length elements ≤ 1048568
  pub all : All IsElement elements

-- A log that continues one that was there, has nothing buffered, and has had no failed write.
pub record MayBeginAnew (log : Option LogThere) (s : LogState) : Type 0 where
  pub behind : is_some log ≡ true
  pub sent : s.written.held ≡ []
  pub fine : s.written.failed ≡ false

-- The file of the log of a hub that has reached these updates: what was there already, what its writer had got then, and how many entries the
-- earlier files were given. Either it is the file that the hub began with. Or it was begun anew when the vector was, after the first `renewed`
-- updates.
pub record LogFile (made : Option (List ℕ)) (limits : Bounds) (numbers : LogHeading) (log : Option LogThere) (start : Option (List ℕ)) (edits : List Edit) : Type 0 where
  pub renewed : ℕ
  pub some : renewed ≤ length edits
  pub there : Option LogThere
  pub begun : Option (List ℕ)
  pub earlier : ℕ
  pub which : ((renewed ≡ 0) × (there ≡ log) × (begun ≡ start) × (earlier ≡ 0))
      ⊎ ((limits ≡ lasting limits) × (there ≡ Some (log_after numbers renewed edits)) × HasLog made (heading_after numbers renewed edits) (list_of (take renewed edits)) begun)

-- A log that was given all that a hub has reached. Its file was begun anew after `renewed` updates, with this number of elements and after
-- `earlier` entries, and was given the vector's updates since then. All entries that the log was given are counted.
pub record IsLogInFile (made : Option (List ℕ)) (limits : Bounds) (numbers : LogHeading) (log : Option LogThere) (start : Option (List ℕ)) (renewed elements earlier : ℕ) (is_log : Bool) (s : LogState) : Type 0 where
  pub file : LogFile made limits numbers log start s.seen
  pub renewed_is : file.renewed ≡ renewed
  pub elements_are : length (list_of (take file.renewed s.seen)) ≡ elements
  pub earlier_is : file.earlier ≡ earlier
  pub behind : is_log ≡ is_some file.there
  pub given : IsLogOf file.there file.begun record { written = s.written; seen = renewed_after file.renewed s.seen; taken = s.taken }
  pub counted : file.earlier + length given.entries ≡ s.taken

-- The contents of that file are a prefix, and its updates are a prefix of those of the vector.
pub record HasFrontOfFile (made : Option (List ℕ)) (limits : Bounds) (numbers : LogHeading) (log : Option LogThere) (start contents : Option (List ℕ)) (edits : List Edit) : Type 0 where
  pub file : LogFile made limits numbers log start edits
  pub front : HasFront file.there file.begun contents (renewed_after file.renewed edits)

-- All updates of the hub were written to that file, or are among those after which it was begun anew. `taken` is the number of its entries and
-- those of the earlier files.
pub record HasAllOfFile (made : Option (List ℕ)) (limits : Bounds) (numbers : LogHeading) (log : Option LogThere) (start contents : Option (List ℕ)) (edits : List Edit) (taken : ℕ) : Type 0 where
  pub file : LogFile made limits numbers log start edits
  pub all : HasAll file.there file.begun contents (renewed_after file.renewed edits)
  pub counted : file.earlier + length all.entries ≡ taken

-- At some time all updates of the hub had been written, and these are a prefix of them. At least this many entries (updates and answers) had been
-- written then.
pub record WereRecorded (made : Option (List ℕ)) (limits : Bounds) (numbers : LogHeading) (log : Option LogThere) (start : Option (List ℕ)) (edits : List Edit) (entries : ℕ) : Type 0 where
  pub then_all : List Edit
  pub contents : Option (List ℕ)
  pub taken : ℕ
  pub begins : IsPrefix edits then_all
  pub many : entries ≤ taken
  pub has : HasAllOfFile made limits numbers log start contents then_all taken

-- How the log of a hub with these updates ends, in its last file.
pub record EndsInFile (made : Option (List ℕ)) (limits : Bounds) (numbers : LogHeading) (log : Option LogThere) (start contents : Option (List ℕ)) (edits : List Edit) (result : Result Unit Fault) : Type 0 where
  pub file : LogFile made limits numbers log start edits
  pub ends : LogEnds file.there file.begun contents (renewed_after file.renewed edits) result
