-- The notifications of a subscriber, as text, and how they are written in turn.
use Rattle.std.specs.Prelude.{◌≡◌, ℕ, Bool, true, false, Option, List, [], ◌∷◌, ◌++◌}
use Rattle.std.specs.List.{flat_map}
use Rattle.std.specs.Io.KnownBytes.{Appends}
use Rattle.lv_geometry.specs.Bounds.{Bounds}
use Rattle.lv_lines.specs.Output.{WritesFront}
use Rattle.lv_lines.specs.Texts.{named_text}
use Rattle.lv_transcript.specs.declared.log_heading.LogHeading.{LogHeading}
use Rattle.lv_standing.specs.declared.notes.Note.{Note}
use Rattle.lv_hub.specs.declared.told.Told.{Told}
use Rattle.lv_hub.specs.Notes.{HasTold, SubscriberState}
use Rattle.lv_history.specs.Numbering.{told_number}

-- The lines of some notes at an edit number, and the lines of a notification.
abbrev pub notes_at : ℕ → List Note → List ℕ
notes_at edit notes = flat_map (λ note. named_text edit note.name note.value) notes

abbrev pub told_text : LogHeading → Told → List ℕ
told_text numbers told = notes_at (told_number numbers told.edit) told.notes.items

-- The lines of all notifications.
abbrev pub all_told_text : LogHeading → List Told → List ℕ
all_told_text numbers tolds = flat_map (told_text numbers) tolds

-- The writer of notifications: what its stream has got, and whether a write has failed.
pub record NoticesState : Type 0 where
  pub contents : Option (List ℕ)
  pub failed : Bool

-- Since its stream had `start`, the writer has written this text. If a write has failed, it has written no more than a prefix of it.
abbrev pub WroteOrPart : Bool → Option (List ℕ) → Option (List ℕ) → List ℕ → Type 0
WroteOrPart false start contents text = Appends start contents text
WroteOrPart true start contents text = WritesFront start [] contents text

-- This text was written after whatever was written before.
abbrev pub WritesMore : List ℕ → NoticesState → NoticesState → Type 0
WritesMore text old new =
    (start : Option (List ℕ)) (before : List ℕ) → WroteOrPart old.failed start old.contents before → WroteOrPart new.failed start new.contents (before ++ text)

-- A subscriber, and the writer of its notifications.
pub record WatcherState : Type 0 where
  pub subscriber : SubscriberState
  pub notices : NoticesState

module _ (limits : Bounds) where
  -- A subscriber of a hub with these limits got these notifications, one after the other.
  abbrev pub AreTold : SubscriberState → List Told → SubscriberState → Type 0
  AreTold old [] new = new ≡ old
  AreTold old (told ∷ tolds) new = (mid : SubscriberState) × HasTold limits old mid told × AreTold mid tolds new

module _ (limits : Bounds) (numbers : LogHeading) where
  -- A subscriber got some notifications, and their lines were written.
  pub record Watches (old new : WatcherState) : Type 0 where
    pub tolds : List Told
    pub told : AreTold limits old.subscriber tolds new.subscriber
    pub written : WritesMore (all_told_text numbers tolds) old.notices new.notices
