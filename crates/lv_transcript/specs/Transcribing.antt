-- A transcript writer: which entries it was given, which bytes of them it has written, and which it still has in its buffer.
use Rattle.std.specs.Prelude.{ℕ, Bool, true, false, List, [], ◌∷◌, ◌++◌, map, Option, None, Some, Result, Ok, Err}
use Rattle.std.specs.Io.KnownBytes.{Appends}
use mathlib.Core.List.{IsPrefix}
use Rattle.lv_lines.specs.declared.fault.Fault.{Fault}
use Rattle.lv_lines.specs.Output.{Writes, WritesFront}
use Rattle.lv_transcript.specs.declared.log_heading.LogHeading.{LogHeading}
use Rattle.lv_transcript.specs.Fronts.{AreTrueAfter, AreTrueOf, Entry, IsFront, IsFrontOf, all_lines, entry_line}
use Rattle.lv_transcript.specs.Transcript.{ended, heading_line}

-- the bytes in the buffer of a transcript writer, and whether a write has failed
pub record WriterState : Type 0 where
  pub held : List ℕ
  pub failed : Bool

-- those bytes, whether a write has failed, and what the underlying writer has received
pub record WritingState : Type 0 where
  pub contents : Option (List ℕ)
  pub held : List ℕ
  pub failed : Bool

abbrev pub state_with : Option (List ℕ) → WriterState → WritingState
state_with contents s = record { contents = contents; held = s.held; failed = s.failed }

-- the text of a prefix that has this heading and these entries
abbrev pub front_bytes_of : Option LogHeading → List Entry → List ℕ
front_bytes_of heading entries = ended (heading_line heading ∷ map entry_line entries)

-- the text of a prefix of a transcript
abbrev pub front_bytes : List Entry → List ℕ
front_bytes entries = front_bytes_of None entries

-- the text of a transcript with its last line
abbrev pub whole_bytes : List Entry → List ℕ
whole_bytes entries = ended (all_lines None entries)

-- ---- where a writer begins: with the first line, or after the lines of entries that are there already

-- the bytes that are there already
abbrev pub bytes_before : Option LogHeading → Option (List Entry) → List ℕ
bytes_before heading None = []
bytes_before heading (Some there) = front_bytes_of heading there

-- the bytes that a writer adds when it is given these entries
abbrev pub bytes_behind : Option LogHeading → Option (List Entry) → List Entry → List ℕ
bytes_behind heading None entries = front_bytes_of heading entries
bytes_behind heading (Some there) entries = ended (map entry_line entries)

-- all entries that there are then
abbrev pub all_entries : Option (List Entry) → List Entry → List Entry
all_entries None entries = entries
all_entries (Some there) entries = there ++ entries

-- since the start the writer has received bytes that, after those that were there, are a prefix with the first of some entries
pub record GotFrontOf (heading : Option LogHeading) (there : Option (List Entry)) (start contents : Option (List ℕ)) (entries : List Entry) : Type 0 where
  pub bytes : List ℕ
  pub got : Appends start contents bytes
  pub some : List Entry
  pub first : IsPrefix some entries
  pub front : IsFrontOf heading (bytes_before heading there ++ bytes) (all_entries there some)

-- since the start the writer has received a prefix of a transcript that began there, with the first of some entries
abbrev pub GotFront : Option (List ℕ) → Option (List ℕ) → List Entry → Type 0
GotFront start contents entries = GotFrontOf None None start contents entries

-- a text was written, or the rest of it is in the buffer. Once a write has failed, no more than a prefix of it was written
abbrev pub WroteOrHolds : Bool → Option (List ℕ) → Option (List ℕ) → List ℕ → List ℕ → Type 0
WroteOrHolds false start contents held text = Writes start [] contents held text
WroteOrHolds true start contents held text = WritesFront start [] contents text

-- a transcript writer was given these entries, after those that were there. Since the start, what it has written and has in its buffer is their
-- text; and if all entries are true in the order of time, all that was written is a prefix
pub record WasGivenOf (heading : Option LogHeading) (there : Option (List Entry)) (start : Option (List ℕ)) (entries : List Entry) (s : WritingState) : Type 0 where
  pub text : WroteOrHolds s.failed start s.contents s.held (bytes_behind heading there entries)
  pub front : AreTrueOf heading (all_entries there entries) → GotFrontOf heading there start s.contents entries

-- a transcript writer that began a transcript was given these entries
abbrev pub WasGiven : Option (List ℕ) → List Entry → WritingState → Type 0
WasGiven start entries s = WasGivenOf None None start entries s

-- it was given nothing yet
abbrev pub IsUnusedOf : Option LogHeading → Option (List Entry) → WriterState → Type 0
IsUnusedOf heading there s = (start : Option (List ℕ)) → WasGivenOf heading there start [] (state_with start s)

abbrev pub IsUnused : WriterState → Type 0
IsUnused s = IsUnusedOf None None s

-- it continues after the lines of any prefix that are there
abbrev pub GoesOn : WriterState → Type 0
GoesOn s = (heading : Option LogHeading) (there : List Entry) → IsUnusedOf heading (Some there) s

-- it was given these entries in addition to any that it was given before, whatever was there when it began
abbrev pub Adds : WritingState → List Entry → WritingState → Type 0
Adds old more new =
    (heading : Option LogHeading) (there : Option (List Entry)) (start : Option (List ℕ)) (entries : List Entry) → WasGivenOf heading there start entries old
    → WasGivenOf heading there start (entries ++ more) new

-- how a text ended that has its last line: all of it was written; or a write has failed, after no more than a prefix of it
abbrev pub EndsWhole : Option (List ℕ) → Option (List ℕ) → List Entry → Result Unit Fault → Type 0
EndsWhole start contents entries (Ok _) =
    Appends start contents (whole_bytes entries) × (AreTrueAfter [] 0 entries → IsFront (whole_bytes entries) entries)
EndsWhole start contents entries (Err fault) =
    WritesFront start [] contents (whole_bytes entries) × (AreTrueAfter [] 0 entries → GotFront start contents entries)
