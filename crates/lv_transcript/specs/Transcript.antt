-- Transcripts: a journal of edits, and reductions that were answered, as text; and when such a text is sound.
use Rattle.std.specs.Prelude.{◌≡◌, ◌⊎◌, ℕ, ◌^◌, ◌<◌, ◌≤◌, None, List, [], ◌∷◌, ◌++◌, length, take, map, fold, All, slice_range, codes, decimal, Option, Some, Result, Ok, Err}
use Rattle.std.specs.List.{flat_map}
use Rattle.std.specs.List.Sorted.{IsNonDecreasingBy}
use Rattle.std.specs.Io.KnownBytes.{Appends}
use Rattle.lv_geometry.specs.Bounds.{Bounds}
use Rattle.lv_bodies.specs.declared.kinds.Kind.{Kind}
use Rattle.lv_bodies.specs.Plain.{plain_value}
use Rattle.lv_edits.specs.declared.edit.Edit.{Edit}
use Rattle.lv_edits.specs.History.{list_of}
use Rattle.lv_edits.specs.Kept.{CarriesElement}
use Rattle.lv_edits.specs.Verdict.{verdict_of}
use Rattle.lv_lines.specs.declared.fault.Fault.{Fault}
use Rattle.lv_lines.specs.declared.fault.Fault.TheVariants.{NoMemory, ReadFault, TooLong, WriteFault}
use Rattle.lv_lines.specs.declared.command.Command.TheVariants as command
use Rattle.lv_lines.specs.Grammar.{kind_name}
use Rattle.lv_lines.specs.Printed.{printed_edit, IsCommand}
use Rattle.lv_lines.specs.Texts.{shown_text}
use Rattle.lv_lines.specs.Output.{WritesFront}
use Rattle.lv_transcript.specs.declared.claimed.Claimed.{Claimed}
use Rattle.lv_transcript.specs.declared.log_heading.LogHeading.{LogHeading}

-- ---- the text

-- the line that a transcript begins with, which names its format
abbrev pub first_line : List ℕ
first_line = codes "livevec 1"

-- the first line of a log: version 2, how many updates came before the file, and how many of its updates represent elements
abbrev pub log_line : LogHeading → List ℕ
log_line heading = codes "livevec 2 " ++ decimal heading.base ++ codes " " ++ decimal heading.elements

-- its numbers have 64 bits and 32 bits
pub record IsHeading (heading : LogHeading) : Type 0 where
  pub base : heading.base < 2 ^ 64
  pub elements : heading.elements < 2 ^ 32

-- the first line of a log, or that of a transcript if there is no heading
abbrev pub heading_line : Option LogHeading → List ℕ
heading_line None = first_line
heading_line (Some heading) = log_line heading

-- the line that a transcript ends with
abbrev pub end_line : List ℕ
end_line = codes "end"

-- the line of an edit: `j`, and the edit as a command
abbrev pub edit_line : Edit → List ℕ
edit_line e = codes "j " ++ printed_edit e

-- the line of an answer up to its value
abbrev pub question_text : ℕ → Kind → ℕ → ℕ → List ℕ
question_text edit kind lo hi =
    codes "a " ++ decimal edit ++ codes " " ++ kind_name kind ++ codes " " ++ decimal lo ++ codes " " ++ decimal hi ++ codes " "

-- the line of an answer
abbrev pub answer_line : Claimed → List ℕ
answer_line answer = question_text answer.edit answer.kind answer.lo answer.hi ++ shown_text answer.value

-- the lines of a transcript: its first line, one for each edit, one for each answer, and its last line
abbrev pub transcript_lines : List Edit → List Claimed → List (List ℕ)
transcript_lines edits answers = first_line ∷ [] ++ map edit_line edits ++ map answer_line answers ++ end_line ∷ []

-- lines as a text: each is ended by LF
abbrev pub ended : List (List ℕ) → List ℕ
ended lines = flat_map (λ line. line ++ 10 ∷ []) lines

-- the text of a transcript
abbrev pub transcript_text : List Edit → List Claimed → List ℕ
transcript_text edits answers = ended (transcript_lines edits answers)

-- ---- when it is sound

-- the greatest limits that a vector can have
abbrev pub greatest : Bounds
greatest = record { buckets = 17; edits = 16777215 }

-- these updates are accepted one after the other, after the updates before them
abbrev pub AreAcceptedAfter : Bounds → List Edit → List Edit → Type 0
AreAcceptedAfter limits before [] = Unit {0}
AreAcceptedAfter limits before (edit ∷ edits) = (verdict_of limits before edit ≡ None) × AreAcceptedAfter limits (before ++ edit ∷ []) edits

-- each update is accepted after those before it
abbrev pub AreAccepted : Bounds → List Edit → Type 0
AreAccepted limits edits = AreAcceptedAfter limits [] edits

-- answers whose versions (update numbers) do not fall
abbrev pub AreInOrder : List Claimed → Type 0
AreInOrder answers = IsNonDecreasingBy (λ answer. answer.edit) answers

-- an answer is true of an operation log: its version is at most the number of updates (version 0 is before the first), its range is within the
-- list at that version, and its value is the plain one there
pub record IsTrueAnswer (edits : List Edit) (answer : Claimed) : Type 0 where
  pub edit : answer.edit ≤ length edits
  pub range : answer.lo ≤ answer.hi
  pub end : answer.hi ≤ length (list_of (take answer.edit edits))
  pub value : answer.value ≡ plain_value answer.kind (slice_range (list_of (take answer.edit edits)) answer.lo answer.hi)

-- bytes are a sound transcript: the text of edits that a vector of the greatest limits accepts, and of true answers in
-- order; the last LF may be missing
pub record IsSoundTranscript (bytes : List ℕ) : Type 0 where
  pub edits : List Edit
  pub answers : List Claimed
  pub text : (bytes ≡ transcript_text edits answers) ⊎ (bytes ++ 10 ∷ [] ≡ transcript_text edits answers)
  pub elements : All CarriesElement edits
  pub accepted : AreAccepted greatest edits
  pub order : AreInOrder answers
  pub all_true : All (IsTrueAnswer edits) answers

-- ---- its lines, as they are read

-- an edit whose numbers fit their types
abbrev pub IsEdit : Edit → Type 0
IsEdit e = IsCommand (command.Edit e)

-- a line has the form of an edit
abbrev pub HasEditForm : List ℕ → Type 0
HasEditForm line = (edit : Edit) × IsEdit edit × (line ≡ edit_line edit)

-- a line begins like that of an answer whose version is not below this one, with any value after that
pub record BeginsAnswer (last : ℕ) (line : List ℕ) : Type 0 where
  pub edit : ℕ
  pub kind : Kind
  pub lo : ℕ
  pub hi : ℕ
  pub value : List ℕ
  pub fits : (edit < 2 ^ 32) × (lo < 2 ^ 32) × (hi < 2 ^ 32)
  pub text : line ≡ question_text edit kind lo hi ++ value
  pub order : last ≤ edit

-- the version of the last of some answers, or 0 if there are none
abbrev pub last_edit : List Claimed → ℕ
last_edit answers = fold (λ edit answer. answer.edit) 0 answers

-- ---- how it is written

-- how the writing of a text ended: all of it was written, no more than a prefix, or nothing
abbrev pub Transcribes : {T : Type 0} → Option (List ℕ) → Option (List ℕ) → List ℕ → Result T Fault → Type 0
Transcribes contents_old contents_new text (Ok _) = Appends contents_old contents_new text
Transcribes contents_old contents_new text (Err WriteFault) = WritesFront contents_old [] contents_new text
Transcribes contents_old contents_new text (Err NoMemory) = contents_new ≡ contents_old
Transcribes contents_old contents_new text (Err ReadFault) = ⊥
Transcribes contents_old contents_new text (Err TooLong) = ⊥
