-- Scripts that continue from updates that were made before, such as those of a prefix of a transcript.
use Rattle.std.specs.Prelude.{◌≡◌, ℕ, ◌+◌, ◌≤◌, List, length, Option, Result, Ok, Err, OnOk}
use Rattle.std.specs.Io.KnownBytes.{Appends, Consumes, IsAtEnd}
use Rattle.lv_geometry.specs.Bounds.{Bounds}
use Rattle.lv_edits.specs.declared.edit.Edit.{Edit}
use Rattle.lv_lines.specs.declared.fault.Fault.{Fault}
use Rattle.lv_lines.specs.declared.line_loop.TheConstants.{MOST_NUMBERED}
use Rattle.lv_lines.specs.Replies.{LinesServed}
use Rattle.lv_transcript.specs.declared.fronts.FrontVerdict.{FrontVerdict}
use Rattle.lv_transcript.specs.declared.log_heading.LogHeading.{LogHeading}
use Rattle.lv_transcript.specs.declared.fronts.FrontVerdict.TheVariants as verdicts
use Rattle.lv_transcript.specs.Audits.{FrontFound, IsRightOfFront, IsWhole, ReadingEnds}
use Rattle.lv_transcript.specs.Transcript.{greatest}
use Rattle.lv_script.specs.declared.restored.Unrestored.{Unrestored}
use Rattle.lv_script.specs.declared.restored.Unrestored.TheVariants as unrestored
use Rattle.lv_script.specs.Interpreter.{IsPlainText, NeverWants, PlainStep}
use Rattle.lv_script.specs.PlainScript.{Plain, start_after, vector_script}
use Rattle.lv_script.specs.Script.{ScriptState, ScriptStep}
use Rattle.lv_script.specs.Beginnings.{BeginsAfter}

-- a script was answered, starting from these updates. Line by line the replies are the reference interpreter's. If the script was answered to its
-- end, all that was written is that interpreter's text, unless a line of it reports `NoMemory` (out of memory)
pub record AnswersAfter {T : Type 0} (limits : Bounds) (edits : List Edit) (remaining_old remaining_new contents_old contents_new : Option (List ℕ)) (result : Result T Fault) : Type 0 where
  pub seen :
      (first : ScriptState) × (last : ScriptState) × BeginsAfter limits edits first × LinesServed ScriptStep first last remaining_old remaining_new contents_old contents_new result
  pub plain : (last : Plain) × LinesServed (PlainStep vector_script) (start_after limits edits) last remaining_old remaining_new contents_old contents_new result
  pub text :
      OnOk result (
      (input : List ℕ) × (text : List ℕ) × Consumes remaining_old remaining_new input × IsAtEnd remaining_new × Appends contents_old contents_new text
      × (NeverWants text → IsPlainText vector_script (start_after limits edits) input text)
      )

-- nothing was read and nothing written
abbrev pub Untouched : Option (List ℕ) → Option (List ℕ) → Option (List ℕ) → Option (List ℕ) → Type 0
Untouched remaining_old remaining_new contents_old contents_new = (remaining_new ≡ remaining_old) × (contents_new ≡ contents_old)

-- the result of a script that was answered to its end
abbrev pub script_ended : Result (Unit {0}) Fault
script_ended = Ok tt

-- how a restoration ended, given the bytes of the prefix that were seen. Either they are a prefix, and a script was answered starting from its
-- updates, to the script's end or to a fault; or they are none or could not be read, and nothing was answered
abbrev pub RestoreEnds : Option (List ℕ) → List ℕ → Option (List ℕ) → Option (List ℕ) → Option (List ℕ) → Option (List ℕ) → Result FrontVerdict Unrestored → Type 0
RestoreEnds rest seen remaining_old remaining_new contents_old contents_new (Ok (verdicts.Front edits answers)) =
    IsWhole MOST_NUMBERED seen rest
    × ((heading : Option LogHeading) × (journal : List Edit) × FrontFound heading seen journal edits answers × AnswersAfter greatest journal remaining_old remaining_new contents_old contents_new script_ended)
RestoreEnds rest seen remaining_old remaining_new contents_old contents_new (Ok verdict) =
    IsWhole MOST_NUMBERED seen rest × ((heading : Option LogHeading) × (journal : List Edit) × IsRightOfFront heading seen journal verdict) × Untouched remaining_old remaining_new contents_old contents_new
RestoreEnds rest seen remaining_old remaining_new contents_old contents_new (Err (unrestored.Script fault)) =
    IsWhole MOST_NUMBERED seen rest
    × ((heading : Option LogHeading) × (journal : List Edit) × (edits : ℕ) × (answers : ℕ) × FrontFound heading seen journal edits answers
    × AnswersAfter {T = Unit {0}} greatest journal remaining_old remaining_new contents_old contents_new (Err fault))
RestoreEnds rest seen remaining_old remaining_new contents_old contents_new (Err (unrestored.Front fault)) =
    ReadingEnds MOST_NUMBERED rest seen (Err fault) × Untouched remaining_old remaining_new contents_old contents_new

-- at most `MOST_NUMBERED + 1` bytes of the text of a prefix were read, and this is what became of it
pub record Restored (front remaining_old remaining_new contents_old contents_new : Option (List ℕ)) (result : Result FrontVerdict Unrestored) : Type 0 where
  pub rest : Option (List ℕ)
  pub seen : List ℕ
  pub read : Consumes front rest seen
  pub few : length seen ≤ MOST_NUMBERED + 1
  pub ends : RestoreEnds rest seen remaining_old remaining_new contents_old contents_new result
