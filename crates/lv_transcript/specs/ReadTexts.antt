-- The verdict of an audit of bytes in memory.
use Rattle.std.specs.Prelude.{◌<◌, ◌≤◌, ◌^◌, ℕ, List, Result, Ok, Err, length, Option}
use Rattle.lv_lines.specs.declared.fault.Fault.{Fault}
use Rattle.lv_lines.specs.declared.fault.Fault.TheVariants as faults
use Rattle.lv_transcript.specs.declared.auditor.Verdict.{Verdict}
use Rattle.lv_transcript.specs.declared.log_heading.LogHeading.{LogHeading}
use Rattle.lv_transcript.specs.declared.fronts.FoundFront.{FoundFront}
use Rattle.lv_transcript.specs.declared.fronts.FrontVerdict.{FrontVerdict}
use Rattle.lv_transcript.specs.Audits.{IsRight, IsRightFound, IsRightVerdict}
use Rattle.lv_transcript.specs.Seals.{logical_of}
use Rattle.lv_transcript.specs.declared.text_audits.Unread.{Unread}
use Rattle.lv_transcript.specs.declared.text_audits.Unread.TheVariants.{NoMemory, TooLong}

-- the reason that bytes got no verdict
abbrev pub unread_by : Fault → Unread
unread_by faults.TooLong = TooLong
unread_by _ = NoMemory

-- bytes got no verdict: memory ran out, or there are too many of them
abbrev pub IsUnread : List ℕ → Unread → Type 0
IsUnread text NoMemory = Unit {0}
IsUnread text TooLong = 2 ^ 30 < length text

-- the result of an audit of bytes is right
abbrev pub TellsOf : {V : Type 0} → (List ℕ → V → Type 0) → List ℕ → Result V Unread → Type 0
TellsOf Right text (Ok found) = (length text ≤ 2 ^ 30) × Right text found
TellsOf Right text (Err why) = IsUnread text why

-- the verdict on bytes as a transcript
abbrev pub AuditsText : List ℕ → Result Verdict Unread → Type 0
AuditsText text result = TellsOf IsRight text result

-- the verdict on the text of bytes as a prefix; and the updates that were read
abbrev pub AuditsFront : List ℕ → Result FrontVerdict Unread → Type 0
AuditsFront text result = TellsOf (λ bytes verdict. (heading : Option LogHeading) × IsRightVerdict heading bytes verdict) (logical_of text) result

abbrev pub FindsFront : List ℕ → Result FoundFront Unread → Type 0
FindsFront text result = TellsOf IsRightFound (logical_of text) result
