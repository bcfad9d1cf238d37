-- A reference model of a server that continues a log. Its sessions are answered by the reference model of sessions, with update numbers that
-- continue those of the log, and its file remains a log of all updates.
use Rattle.std.specs.Prelude.{◌≡◌, ◌⊎◌, ℕ, ◌+◌, ◌≤◌, nat_eq, Option, Some, List, ◌++◌, All, drop, length, map, take}
use Rattle.std.specs.List.{sum_by}
use Rattle.std.specs.Io.KnownBytes.{Appends}
use mathlib.Core.List.{IsPrefix}
use Rattle.lv_geometry.specs.Bounds.{Bounds}
use Rattle.lv_edits.specs.declared.edit.Edit.{Edit}
use Rattle.lv_edits.specs.declared.edit.Edit.TheVariants.{Push}
use Rattle.lv_edits.specs.History.{list_of}
use Rattle.lv_transcript.specs.declared.log_heading.LogHeading.{LogHeading}
use Rattle.lv_transcript.specs.Fronts.{AreTrueAfter, Entry, IsFrontOf, edits_in, entry_line}
use Rattle.lv_transcript.specs.Logs.{log_text, pushes_of_elements}
use Rattle.lv_transcript.specs.Transcript.{ended}
use Rattle.lv_hub.specs.Logging.{heading_after}
use Rattle.lv_hub.specs.Noticing.{NoticesState}
use Rattle.lv_hub.specs.PlainSession.{Seen}
use Rattle.lv_hub.specs.Renewing.{IsRun, opened_limits}
use Rattle.lv_hub.specs.Watched.{AreWatched, WatchState}
use Rattle.lv_server.specs.PlainServed.{AreHeldPlainly}
use Rattle.lv_server.specs.Served.{Sides}

-- The limits of the updates of such a server. If its vector may have as many as any vector, the server continues when they are used up.
abbrev pub served_limits : Bounds → Bounds
served_limits limits = opened_limits (nat_eq limits.edits 16777215) limits

-- Entries were appended to a file, one a line. They are true in the order of time after the updates `begun`, and their updates are all that came
-- after these.
pub record LogGoesOn (begun edits : List Edit) (contents_old contents_new : Option (List ℕ)) : Type 0 where
  pub entries : List Entry
  pub all_true : AreTrueAfter begun (length begun) entries
  pub edits_are : begun ++ edits_in entries ≡ edits
  pub written : Appends contents_old contents_new (ended (map entry_line entries))

-- A file was begun anew after the first of some updates. It has what a fresh file has, then a log of the elements that there were at that time,
-- whose first line says how many updates came before, and then further entries, one a line. The entries are true in the order of time, and their
-- updates are all the later ones. As a whole the file is a valid log.
pub record LogBegunAnew (heading : LogHeading) (edits : List Edit) (fresh contents : Option (List ℕ)) : Type 0 where
  pub first : ℕ
  pub some : first ≤ length edits
  pub entries : List Entry
  pub all_true : AreTrueAfter (map Push (list_of (take first edits))) (length (list_of (take first edits))) entries
  pub edits_are : edits_in entries ≡ drop first edits
  pub written : Appends fresh contents (log_text (heading_after heading first edits) (list_of (take first edits)) ++ ended (map entry_line entries))
  pub sound : IsFrontOf (Some (heading_after heading first edits)) (log_text (heading_after heading first edits) (list_of (take first edits)) ++ ended (map entry_line entries)) (pushes_of_elements (list_of (take first edits)) ++ entries)

-- The last file of a log that began with some updates and came to more. Either it is the file that was there. Or it was begun anew, which only
-- happens at a server whose vector may have as many updates as any vector.
abbrev pub HasAllEdits : Bounds → LogHeading → List Edit → List Edit → Option (List ℕ) → Option (List ℕ) → Option (List ℕ) → Type 0
HasAllEdits limits heading begun edits fresh contents_old contents_new =
    LogGoesOn begun edits contents_old contents_new ⊎ ((limits.edits ≡ 16777215) × LogBegunAnew heading edits fresh contents_new)

-- Sessions and subscribers were served from a log with this first line and the updates `begun`. There is one list of updates, possible one after
-- the other. It begins with `begun`, and has as many more updates as the sessions made together. What each session has seen at its end is a
-- prefix of it. The last file has all of them, and the notifications of subscribers are of them.
pub record LogServed (limits : Bounds) (heading : LogHeading) (begun : List Edit) (old new : List Sides) (watches : List WatchState) (told : List NoticesState) (fresh contents_old contents_new : Option (List ℕ)) : Type 0 where
  pub edits : List Edit
  pub legal : IsRun (served_limits limits) edits
  pub sessions : List Seen
  pub held : AreHeldPlainly (served_limits limits) heading begun old new sessions
  pub starts : IsPrefix begun edits
  pub seen : All (λ seen. IsPrefix seen.edits edits) sessions
  pub made : length edits ≡ length begun + sum_by (λ seen. seen.made) sessions
  pub log : HasAllEdits limits heading begun edits fresh contents_old contents_new
  pub watched : AreWatched heading edits watches told
