-- The verdicts of audits of whole transcripts and of prefixes, and their texts.
use Rattle.std.specs.Prelude.{◌≡◌, ◌⊎◌, ◌↔◌, ℕ, ◌+◌, ◌-◌, ◌<◌, ◌≤◌, true, false, List, [], length, take, codes, decimal, Option, None, Some, Result, Ok, Err, ◌++◌}
use Rattle.std.specs.Io.KnownBytes.{Appends, Consumes}
use Rattle.lv_edits.specs.declared.edit.Edit.{Edit}
use Rattle.lv_lines.specs.declared.fault.Fault.{Fault}
use Rattle.lv_lines.specs.declared.fault.Fault.TheVariants.{NoMemory, ReadFault, TooLong, WriteFault}
use Rattle.lv_lines.specs.Input.{lines_of, whole_lines_of}
use Rattle.lv_lines.specs.Output.{WritesFront}
use Rattle.lv_lines.specs.Replies.{HasAtMost, HasOneMore, most_read}
use Rattle.lv_lines.specs.Texts.{bad_text, reply_line}
use Rattle.std.specs.Io.KnownBytes.{IsAtEnd}
use Rattle.lv_transcript.specs.declared.auditor.Verdict.{Verdict}
use Rattle.lv_transcript.specs.declared.auditor.Verdict.TheVariants.{Yes, No, Bad}
use Rattle.lv_transcript.specs.declared.fronts.FrontVerdict.{FrontVerdict}
use Rattle.lv_transcript.specs.declared.fronts.FrontVerdict.TheVariants as fronts
use Rattle.lv_transcript.specs.declared.fronts.FoundFront.{FoundFront}
use Rattle.lv_transcript.specs.declared.log_heading.LogHeading.{LogHeading}
use Rattle.lv_transcript.specs.Fronts.{Entry, IsBadAt, IsFalseAt, IsToldBy, IsWholeFront, answers_in, edits_in}
use Rattle.lv_transcript.specs.Seals.{bytes_in_file, text_of}
use Rattle.lv_transcript.specs.Transcribing.{front_bytes_of}
use Rattle.lv_transcript.specs.Transcript.{AreAccepted, IsSoundTranscript, greatest, transcript_text}

-- ---- verdicts

-- the line that reports a verdict on a transcript
abbrev pub verdict_text : Verdict → List ℕ
verdict_text Yes = reply_line (codes "yes")
verdict_text (No n) = reply_line (codes "no " ++ decimal n)
verdict_text (Bad n) = bad_text n

-- the line that a verdict names is the first fault, and is either false or not of the right form
abbrev pub NamesRight : List ℕ → Verdict → Type 0
NamesRight bytes Yes = Unit {0}
NamesRight bytes (No n) = (edits : List Edit) × IsFalseAt false None (lines_of bytes) n edits
NamesRight bytes (Bad n) = (edits : List Edit) × IsBadAt false None (lines_of bytes) n edits

-- a verdict on bytes is right: it is `Yes` if and only if they are a sound transcript, and otherwise names the first fault
abbrev pub IsRight : List ℕ → Verdict → Type 0
IsRight bytes verdict = ((verdict ≡ Yes) ↔ IsSoundTranscript bytes) × NamesRight bytes verdict

-- the line that reports how many updates and answers a prefix (*front*) has. For a log it also has how many updates came before it, and how many
-- of its updates represent elements; only those after them count as updates
abbrev pub counts_text : Option LogHeading → ℕ → ℕ → List ℕ
counts_text None edits answers = reply_line (codes "front " ++ decimal edits ++ codes " edits " ++ decimal answers ++ codes " answers")
counts_text (Some heading) edits answers =
    reply_line (
    codes "log " ++ decimal heading.base ++ codes " base " ++ decimal heading.elements ++ codes " elements " ++ decimal (edits - heading.elements) ++ codes " edits " ++ decimal answers ++ codes " answers"
    )

-- the line that reports a verdict on a prefix
abbrev pub front_text : Option LogHeading → FrontVerdict → List ℕ
front_text heading (fronts.Front edits answers) = counts_text heading edits answers
front_text heading (fronts.No n) = reply_line (codes "no " ++ decimal n)
front_text heading (fronts.Bad n) = bad_text n

-- bytes are a prefix with this heading and these updates, and with so many updates and answers. In the order of a transcript they are a sound one
pub record FrontFound (heading : Option LogHeading) (bytes : List ℕ) (journal : List Edit) (edits answers : ℕ) : Type 0 where
  pub entries : List Entry
  pub told : IsToldBy (whole_lines_of bytes) heading
  pub front : IsWholeFront heading bytes entries
  pub journal_is : journal ≡ edits_in entries
  pub edits_are : edits ≡ length (edits_in entries)
  pub answers_are : answers ≡ length (answers_in entries)
  pub accepted : AreAccepted greatest journal
  pub sound : IsSoundTranscript (transcript_text (edits_in entries) (answers_in entries))

-- bytes are not a prefix, neither of a transcript nor of a log
abbrev pub IsNoFront : List ℕ → Type 0
IsNoFront bytes = (heading : Option LogHeading) (entries : List Entry) → IsWholeFront heading bytes entries → ⊥

-- a verdict on bytes, the heading and the updates that were read are right: the bytes are a prefix with so many updates and answers; or they are
-- not, the verdict names the first fault, and the updates are those before it
abbrev pub IsRightOfFront : Option LogHeading → List ℕ → List Edit → FrontVerdict → Type 0
IsRightOfFront heading bytes journal (fronts.Front edits answers) = FrontFound heading bytes journal edits answers
IsRightOfFront heading bytes journal (fronts.No n) = IsNoFront bytes × IsFalseAt true heading (whole_lines_of bytes) n journal
IsRightOfFront heading bytes journal (fronts.Bad n) = IsNoFront bytes × IsBadAt true heading (whole_lines_of bytes) n journal

-- a verdict is right, for some updates
abbrev pub IsRightVerdict : Option LogHeading → List ℕ → FrontVerdict → Type 0
IsRightVerdict heading bytes verdict = (journal : List Edit) × IsRightOfFront heading bytes journal verdict

-- so many of the first bytes are the first line and those of these entries; or there is no whole line, and the number is 0
abbrev pub IsWholeUpTo : Option LogHeading → List ℕ → List Entry → ℕ → Type 0
IsWholeUpTo heading bytes entries whole =
    ((whole_lines_of bytes ≡ []) × (whole ≡ 0)) ⊎ ((0 < whole) × (whole ≤ length bytes) × (take whole bytes ≡ front_bytes_of heading entries))

-- how many bytes of a prefix are the first line and those of its entries
abbrev pub IsRightWhole : (heading : Option LogHeading) (bytes : List ℕ) (journal : List Edit) (whole : ℕ) (verdict : FrontVerdict) → IsRightOfFront heading bytes journal verdict → Type 0
IsRightWhole heading bytes journal whole (fronts.Front edits answers) found = IsWholeUpTo heading bytes found.entries whole
IsRightWhole heading bytes journal whole verdict found = Unit {0}

-- ---- how they are read and written

-- all bytes of an input that has at most so many were seen
abbrev pub IsWhole : ℕ → List ℕ → Option (List ℕ) → Type 0
IsWhole most seen remaining = IsAtEnd remaining × HasAtMost most seen

-- how the reading of an input ended, given the bytes that were seen: with a result that is right for the whole input; or a read failed, the input
-- is too long, or memory ran out. (Replies to lines are discarded. That writing them fails is not excluded here.)
abbrev pub EndsReading : {V : Type 0} → ℕ → (List ℕ → V → Type 0) → Option (List ℕ) → List ℕ → Result V Fault → Type 0
EndsReading most Right remaining seen (Ok found) = IsWhole most seen remaining × Right seen found
EndsReading most Right remaining seen (Err ReadFault) = HasAtMost most seen
EndsReading most Right remaining seen (Err TooLong) = HasOneMore most seen
EndsReading most Right remaining seen (Err WriteFault) = Unit {0}
EndsReading most Right remaining seen (Err NoMemory) = Unit {0}

-- an input was read: at most `most + 1` of its bytes were taken
pub record ReadsInput {V : Type 0} (most : ℕ) (Right : List ℕ → V → Type 0) (remaining rest : Option (List ℕ)) (result : Result V Fault) : Type 0 where
  pub seen : List ℕ
  pub read : Consumes remaining rest seen
  pub few : length seen ≤ most + 1
  pub ends : EndsReading most Right rest seen result

-- how an audit ended, given the bytes that were seen: a result that is right for the whole input was written; or a write failed, after no more
-- than a prefix of that; or a read failed, the input is too long, or memory ran out, and nothing was written
abbrev pub EndsAudit : {V : Type 0} → ℕ → (List ℕ → V → Type 0) → (V → List ℕ) → Option (List ℕ) → Option (List ℕ) → Option (List ℕ) → List ℕ → Result V Fault → Type 0
EndsAudit most Right text remaining contents_old contents_new seen (Ok verdict) =
    IsWhole most seen remaining × Right seen verdict × Appends contents_old contents_new (text verdict)
EndsAudit {V} most Right text remaining contents_old contents_new seen (Err WriteFault) =
    Appends contents_old contents_new []
    ⊎ ((verdict : V) × IsWhole most seen remaining × Right seen verdict × WritesFront contents_old [] contents_new (text verdict))
EndsAudit most Right text remaining contents_old contents_new seen (Err ReadFault) = HasAtMost most seen × Appends contents_old contents_new []
EndsAudit most Right text remaining contents_old contents_new seen (Err TooLong) = HasOneMore most seen × Appends contents_old contents_new []
EndsAudit most Right text remaining contents_old contents_new seen (Err NoMemory) = Appends contents_old contents_new []

-- an input was audited: at most `most + 1` of its bytes were read
pub record AuditsInput {V : Type 0} (most : ℕ) (Right : List ℕ → V → Type 0) (text : V → List ℕ) (remaining rest contents_old contents_new : Option (List ℕ)) (result : Result V Fault) : Type 0 where
  pub seen : List ℕ
  pub read : Consumes remaining rest seen
  pub few : length seen ≤ most + 1
  pub ends : EndsAudit most Right text rest contents_old contents_new seen result

-- an input was audited as a whole transcript
abbrev pub Audited : Option (List ℕ) → Option (List ℕ) → Option (List ℕ) → Option (List ℕ) → Result Verdict Fault → Type 0
Audited remaining_old remaining_new contents_old contents_new result = AuditsInput most_read IsRight verdict_text remaining_old remaining_new contents_old contents_new result

-- the text of an input was audited as a prefix, of at most so many bytes
abbrev pub FrontAudited : ℕ → Option (List ℕ) → Option (List ℕ) → Option (List ℕ) → Result FrontVerdict Fault → Type 0
FrontAudited most remaining contents_old contents_new result =
    (rest : Option (List ℕ)) × (heading : Option LogHeading) × AuditsInput most (IsRightVerdict heading) (front_text heading) (text_of remaining) rest contents_old contents_new result

-- the findings about a prefix are right for its text: the verdict, the heading and the updates, and how many bytes of the file its lines are
pub record IsRightFound (seen : List ℕ) (found : FoundFront) : Type 0 where
  pub right : IsRightOfFront found.heading seen found.edits.journal found.verdict
  pub bytes : ℕ
  pub whole : IsRightWhole found.heading seen found.edits.journal bytes found.verdict right
  pub in_file : found.whole ≡ bytes_in_file found.hash bytes (length (whole_lines_of seen))

-- how the reading of a prefix ended
abbrev pub ReadingEnds : ℕ → Option (List ℕ) → List ℕ → Result FoundFront Fault → Type 0
ReadingEnds most remaining seen result = EndsReading most IsRightFound remaining seen result

-- the text of an input was read as a prefix, of at most so many bytes
abbrev pub ReadsFront : ℕ → Option (List ℕ) → Result FoundFront Fault → Type 0
ReadsFront most remaining result = (rest : Option (List ℕ)) × ReadsInput most IsRightFound (text_of remaining) rest result
