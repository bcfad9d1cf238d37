-- Subscribers that run together with sessions, before and after.
use Rattle.std.specs.Prelude.{⊤, ◌≡◌, ℕ, ◌+◌, ◌<◌, false, Option, List, [], ◌∷◌, All, length, map, slice_index_or}
use Rattle.std.specs.Io.KnownBytes.{Appends}
use mathlib.Core.List.{IsPrefix}
use Rattle.lv_geometry.specs.Bounds.{Bounds}
use Rattle.lv_edits.specs.declared.edit.Edit.{Edit}
use Rattle.lv_transcript.specs.declared.claimed.Claimed.{Claimed}
use Rattle.lv_transcript.specs.declared.log_heading.LogHeading.{LogHeading}
use Rattle.lv_transcript.specs.Transcript.{transcript_text}
use Rattle.lv_hub.specs.declared.told.Told.{Told}
use Rattle.lv_hub.specs.Counting.{ShareState}
use Rattle.lv_standing.specs.Queries.{AreNotesOf, watch_answer}
use Rattle.lv_hub.specs.Notes.{EndedState}
use Rattle.lv_hub.specs.Noticing.{NoticesState, WatcherState, Watches, WritesMore, told_text}
use Rattle.lv_hub.specs.Watched.{ToldOf, WatchState}

-- A subscriber that has one part of a hub, has seen no updates and has got no notifications.
abbrev pub watcher_at : WatchState → WatcherState
watcher_at watch = record {
  subscriber = record { share = record { parts = 1; count = 0; seen = [] }; questions = watch.questions; told = map (watch_answer []) watch.questions };
  notices = record { contents = watch.contents; failed = false };
}

-- Each of several subscribers was notified by a hub with these limits and this numbering.
pub record AreWatchedFrom (limits : Bounds) (numbers : LogHeading) (old new : List WatcherState) : Type 0 where
  pub len : length new ≡ length old
  pub each : (i : ℕ) (o : WatcherState) (n : WatcherState) → i < length old → Watches limits numbers (slice_index_or old i o) (slice_index_or new i n)

-- A subscriber that has ended, the writer of its notifications, and the numbering of its updates.
pub record LeftState : Type 0 where
  pub numbers : LogHeading
  pub ended : EndedState
  pub notices : NoticesState

-- What a subscriber leaves when it has ended.
abbrev pub left_by : LogHeading → WatcherState → LeftState
left_by numbers w = record { numbers = numbers; ended = record { questions = w.subscriber.questions; told = w.subscriber.told }; notices = w.notices }

-- A share has taken in the shares of subscribers. It has seen what each of them had seen, and its count is unchanged.
pub record TakesWatchers (numbers : LogHeading) (old new : ShareState) (watchers : List WatcherState) (left : List LeftState) : Type 0 where
  pub parts : new.parts ≡ old.parts + length watchers
  pub count : new.count ≡ old.count
  pub more : IsPrefix old.seen new.seen
  pub seen : All (λ w. IsPrefix w.subscriber.share.seen new.seen) watchers
  pub left_are : left ≡ map (left_by numbers) watchers

-- The notifications of each subscriber that has ended are of every list of updates that extends what was seen.
abbrev pub AreLeft : LogHeading → List Edit → List WatchState → List LeftState → Type 0
AreLeft numbers seen [] [] = ⊤
AreLeft numbers seen (watch ∷ watches) (l ∷ left) =
    (l.numbers ≡ numbers) × (l.ended.questions ≡ watch.questions)
    × ((edits : List Edit) → IsPrefix seen edits → ToldOf numbers edits watch l.ended.told l.notices) × AreLeft numbers seen watches left
AreLeft numbers seen _ _ = ⊥

-- A subscriber got its last notification, at the end of a list of updates. It was written, unless a write has failed.
pub record TellsLast (edits : List Edit) (old : LeftState) (new : NoticesState) : Type 0 where
  pub told : Told
  pub edit : told.edit ≡ length edits
  pub notes : AreNotesOf old.ended.questions old.ended.told (map (watch_answer edits) old.ended.questions) told.notes.items
  pub written : WritesMore (told_text old.numbers told) old.notices new

-- Each of several subscribers got its last notification.
abbrev pub AllTellLast : List Edit → List LeftState → List NoticesState → Type 0
AllTellLast edits [] [] = ⊤
AllTellLast edits (old ∷ olds) (new ∷ news) = TellsLast edits old new × AllTellLast edits olds news
AllTellLast edits _ _ = ⊥

-- A hub was closed with a share. Its transcript was written, and each subscriber got its last notification.
pub record ClosesTelling (share : ShareState) (left : List LeftState) (told : List NoticesState) (contents_old contents_new : Option (List ℕ)) : Type 0 where
  pub journal : List Edit
  pub seen : IsPrefix share.seen journal
  pub last : AllTellLast journal left told
  pub answers : List Claimed
  pub written : Appends contents_old contents_new (transcript_text journal answers)
