-- What a read of a journal and the text of a transcript answer, and what they leave in the caller's memory, for the object in a slot.
use Rattle.std.specs.Prelude.{◌≡◌, ◌⊎◌, ◌++◌, ◌-◌, ℕ, Option, Some, None, Result, Ok, Err, OnOk, List, All, drop, length, map, min, take}
use Rattle.lv_transcript.specs.FlatEdits.{flat_edit}
use Rattle.lv_transcript.specs.PutTexts.{PutsText}
use Rattle.lv_transcript.specs.declared.flat_edits.FlatEdit.{FlatEdit}
use Rattle.lv_transcript.specs.declared.text_buffers.Unput.{Unput}
use Rattle.lv_transcript.specs.declared.text_buffers.Unput.TheVariants.{NoMemory, Short}
use Rattle.lv_edits.specs.declared.edit.Edit.{Edit}
use Rattle.lv_transcript.specs.declared.claimed.Claimed.{Claimed}
use Rattle.lv_transcript.specs.Transcript.{AreAccepted, IsSoundTranscript, IsTrueAnswer, greatest, transcript_text}
use Rattle.livevec_c.specs.declared.claims.Recorded.{Recorded}
use Rattle.livevec_c.specs.declared.objects.Object.{Object}
use Rattle.livevec_c.specs.declared.objects.Object.TheVariants.{Vector}
use Rattle.livevec_c.specs.declared.transcripts.JournalRead.{JournalRead}
use Rattle.livevec_c.specs.declared.transcripts.TextPut.{TextPut}
use Rattle.livevec_c.specs.Behind.{State}
use Rattle.livevec_c.specs.Claims.{ClaimsInOrder}

-- ---- a journal, read in pieces

-- how many edits of a journal there are after the first `from`, as far as they fit
abbrev pub edits_there : ℕ → ℕ → State → ℕ
edits_there from places state = min places (length state.history.journal - from)

abbrev pub journal_read : ℕ → ℕ → State → JournalRead
journal_read from places state = record { refusal = 0; edit = length state.history.journal; length = edits_there from places state }

-- the caller's places after it: these edits, and after them what was there
abbrev pub edits_put : ℕ → List FlatEdit → State → List FlatEdit
edits_put from old state = map flat_edit (take (edits_there from (length old) state) (drop from state.history.journal)) ++ drop (edits_there from (length old) state) old

-- a read if a slot holds no vector
abbrev pub unread_journal : JournalRead
unread_journal = record { refusal = 101; edit = 0; length = 0 }

-- a read of an object, which is to be a vector
abbrev pub object_journal : ℕ → ℕ → Object → JournalRead
object_journal from places (Vector state only) = journal_read from places state
object_journal from places other = unread_journal

abbrev pub object_edits : ℕ → List FlatEdit → Object → List FlatEdit
object_edits from old (Vector state only) = edits_put from old state
object_edits from old other = old

-- a read of the object in a slot
abbrev pub journal_behind : ℕ → ℕ → Option Object → JournalRead
journal_behind from places None = unread_journal
journal_behind from places (Some object) = object_journal from places object

abbrev pub edits_behind : ℕ → List FlatEdit → Option Object → List FlatEdit
edits_behind from old None = old
edits_behind from old (Some object) = object_edits from old object

-- ---- a transcript's text

-- a text that was not put into the caller's bytes
abbrev pub unwritten_text : ℕ → TextPut
unwritten_text refusal = record { refusal = refusal; length = 0 }

-- what became of a text
abbrev pub written_text : Result ℕ Unput → TextPut
written_text (Ok taken) = record { refusal = 0; length = taken }
written_text (Err NoMemory) = unwritten_text 6
written_text (Err (Short wanted)) = record { refusal = 103; length = wanted }

-- the transcript of a journal and of claims is put at the start of the caller's bytes, if it fits; else no byte changes. It is sound if the journal
-- is one of accepted edits and each claim is true
abbrev pub TranscribesJournal : List Edit → List Claimed → TextPut → List ℕ → List ℕ → Type 0
TranscribesJournal edits claims answer old new =
    (r : Result ℕ Unput) × (answer ≡ written_text r) × PutsText (transcript_text edits claims) old new r
    × (AreAccepted greatest edits → All (IsTrueAnswer edits) claims → OnOk r (IsSoundTranscript (transcript_text edits claims)))

-- the transcript of a vector
abbrev pub TranscribesLive : List Claimed → TextPut → List ℕ → List ℕ → State → Type 0
TranscribesLive claims answer old new state = TranscribesJournal state.history.journal claims answer old new

-- the transcript of an object, which is to be a vector
abbrev pub TranscribesObject : List Claimed → TextPut → List ℕ → List ℕ → Object → Type 0
TranscribesObject claims answer old new (Vector state only) = TranscribesLive claims answer old new state
TranscribesObject claims answer old new other = (answer ≡ unwritten_text 101) × (new ≡ old)

-- the transcript of the object in a slot
abbrev pub TranscribesBehind : List Claimed → TextPut → List ℕ → List ℕ → Option Object → Type 0
TranscribesBehind claims answer old new None = (answer ≡ unwritten_text 101) × (new ≡ old)
TranscribesBehind claims answer old new (Some object) = TranscribesObject claims answer old new object

-- the transcript with recorded answers, if they are claims in the order of their edits; else the answer says why not, and no byte changes
abbrev pub TranscribesFor : Result (List Claimed) ℕ → TextPut → List ℕ → List ℕ → Option Object → Type 0
TranscribesFor (Ok claims) answer old new slot = TranscribesBehind claims answer old new slot
TranscribesFor (Err number) answer old new slot = (answer ≡ unwritten_text number) × (new ≡ old)

abbrev pub Transcribes : List Recorded → TextPut → List ℕ → List ℕ → Option Object → Type 0
Transcribes answers answer old new slot = (r : Result (List Claimed) ℕ) × ClaimsInOrder answers r × TranscribesFor r answer old new slot
