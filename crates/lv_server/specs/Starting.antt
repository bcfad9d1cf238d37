-- The contents of a transcript's file when sessions begin, and when they have ended without a fault.
use Rattle.std.specs.Prelude.{ℕ, Option, Some, None, List}
use Rattle.std.specs.Io.KnownBytes.{Appends}
use Rattle.lv_edits.specs.declared.edit.Edit.{Edit}
use Rattle.lv_transcript.specs.declared.claimed.Claimed.{Claimed}
use Rattle.lv_transcript.specs.Transcript.{transcript_text}
use Rattle.lv_hub.specs.Logging.{WroteWhole}

-- The contents of the file, if there is one.
abbrev pub start_of : {V : Type 0} → (V → Option (List ℕ)) → Option V → Option (List ℕ)
start_of contents (Some file) = contents file
start_of contents None = None

-- The transcript of a journal was written. In addition, a file that had the contents `start` got all updates of that journal, answers that are
-- each true of the updates before it, and the last line.
pub record Records (start file contents_old contents_new : Option (List ℕ)) : Type 0 where
  pub journal : List Edit
  pub answers : List Claimed
  pub written : Appends contents_old contents_new (transcript_text journal answers)
  pub whole : WroteWhole None start file journal
