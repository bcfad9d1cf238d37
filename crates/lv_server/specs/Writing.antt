-- How the transcript of a journal, or of a closed hub, is written.
use Rattle.std.specs.Prelude.{◌≡◌, ◌⊎◌, ℕ, Option, Result, Ok, Err, List, [], length}
use Rattle.std.specs.List.Sorted.{IsPermutation}
use Rattle.std.specs.Io.KnownBytes.{Appends}
use mathlib.Core.List.{IsPrefix}
use Rattle.lv_edits.specs.declared.edit.Edit.{Edit}
use Rattle.lv_transcript.specs.declared.claimed.Claimed.{Claimed}
use Rattle.lv_lines.specs.declared.fault.Fault.{Fault}
use Rattle.lv_lines.specs.declared.fault.Fault.TheVariants.{WriteFault}
use Rattle.lv_geometry.specs.Bounds.{Bounds}
use Rattle.lv_edits.specs.Kept.{IsLegalInLimits}
use Rattle.lv_lines.specs.Output.{WritesFront}
use Rattle.lv_transcript.specs.Transcript.{AreAccepted, AreInOrder, IsSoundTranscript, greatest, transcript_text}
use Rattle.lv_hub.specs.Counting.{ShareState}
use Rattle.lv_hub.specs.Session.{KeepTies}
use Rattle.lv_hub.specs.Told.{history_of}

-- A text is the transcript of a journal and of these answers, once they are in order.
pub record IsTextOf (journal : List Edit) (listed : List Claimed) (text : List ℕ) : Type 0 where
  pub answers : List Claimed
  pub text_is : text ≡ transcript_text journal answers
  pub permutes : IsPermutation listed answers
  pub ties : KeepTies listed answers
  pub order : AreInOrder answers

-- The transcript was written. Or nothing was written. Or a write failed, after no more than a prefix of it.
abbrev pub Writes : {T : Type 0} → List Edit → List Claimed → Option (List ℕ) → Option (List ℕ) → Result T Fault → Type 0
Writes journal listed contents_old contents_new (Ok _) =
    (text : List ℕ) × IsTextOf journal listed text × IsSoundTranscript text × Appends contents_old contents_new text
Writes journal listed contents_old contents_new (Err fault) =
    (contents_new ≡ contents_old) ⊎ ((fault ≡ WriteFault) × (text : List ℕ) × IsTextOf journal listed text × WritesFront contents_old [] contents_new text)

-- The updates of a hub that was closed with this share.
pub record IsJournal (limits : Bounds) (share : ShareState) (journal : List Edit) : Type 0 where
  pub within : IsLegalInLimits (history_of limits journal)
  pub accepted : AreAccepted greatest journal
  pub seen : IsPrefix share.seen journal
  pub counted : length journal ≡ share.count

-- The journal of a closed hub was written in this way.
pub record WritesClosed {T : Type 0} (limits : Bounds) (share : ShareState) (listed : List Claimed) (contents_old contents_new : Option (List ℕ)) (result : Result T Fault) : Type 0 where
  pub journal : List Edit
  pub of : IsJournal limits share journal
  pub written : Writes journal listed contents_old contents_new result

-- The hub was closed, and its transcript wasn't written, or not completely or not everywhere, with this fault.
abbrev pub FailsToClose : Bounds → ShareState → List Claimed → Option (List ℕ) → Option (List ℕ) → Fault → Type 0
FailsToClose limits share listed contents_old contents_new fault = WritesClosed {T = Unit {0}} limits share listed contents_old contents_new (Err fault)
