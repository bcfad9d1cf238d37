-- How the hub of a server that continues a log is closed.
use Rattle.std.specs.Prelude.{◌≡◌, ◌⊎◌, ℕ, Ok, Option, IfSome, List, length, map}
use mathlib.Core.List.{IsPrefix}
use Rattle.lv_geometry.specs.Bounds.{Bounds}
use Rattle.lv_edits.specs.declared.edit.Edit.{Edit}
use Rattle.lv_transcript.specs.declared.log_heading.LogHeading.{LogHeading}
use Rattle.lv_hub.specs.Counting.{ShareState}
use Rattle.lv_transcript.specs.Logs.{LogThere}
use Rattle.lv_hub.specs.Logging.{EndsInFile}
use Rattle.lv_hub.specs.Noticing.{NoticesState}
use Rattle.lv_hub.specs.Renewing.{IsRun}
use Rattle.lv_hub.specs.Watchers.{AllTellLast, LeftState}

-- A hub was closed with a share. Each subscriber wrote its last notification, and the last file of the log, if there is one, has all updates of
-- the hub.
pub record ClosesLog {V : Type 0} (made : Option (List ℕ)) (contents : V → Option (List ℕ)) (log : Option LogThere) (start : Option (List ℕ)) (limits : Bounds) (numbers : LogHeading) (share : ShareState) (left : List LeftState) (told : List NoticesState) (file : Option V) : Type 0 where
  pub edits : List Edit
  pub run : IsRun limits edits
  pub seen : IsPrefix share.seen edits
  pub counted : length edits ≡ share.count
  pub last : AllTellLast edits left told
  pub whole : IfSome file (λ file. EndsInFile made limits numbers log start (contents file) edits (Ok tt))

-- Either subscribers that have ended wrote nothing more. Or they wrote their last notifications, at the end of some updates, and the last file of
-- the log, if there is one, has all of these.
abbrev pub TellsOnceRecorded : {V : Type 0} → Option (List ℕ) → (V → Option (List ℕ)) → Option LogThere → Option (List ℕ) → Bounds → LogHeading → List LeftState → List NoticesState → Option V → Type 0
TellsOnceRecorded made contents log start limits numbers left told file =
    (map (λ n. n.contents) told ≡ map (λ l. l.notices.contents) left)
    ⊎ ((edits : List Edit) × AllTellLast edits left told × IfSome file (λ file. EndsInFile made limits numbers log start (contents file) edits (Ok tt)))
