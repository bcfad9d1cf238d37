-- What the files of subscribers have at the end: the answers to their questions after prefixes of one list of updates.
use Rattle.std.specs.Prelude.{⊤, ◌≡◌, ℕ, ◌≤◌, Option, List, [], ◌∷◌, length, map, take}
use Rattle.std.specs.Io.KnownBytes.{Appends}
use Rattle.lv_bodies.specs.declared.kinds.Shown.{Shown}
use Rattle.lv_edits.specs.declared.edit.Edit.{Edit}
use Rattle.lv_transcript.specs.declared.claimed.Claimed.{Claimed}
use Rattle.lv_transcript.specs.declared.log_heading.LogHeading.{LogHeading}
use Rattle.lv_transcript.specs.Transcript.{transcript_text}
use Rattle.lv_standing.specs.declared.queries.Query.{Query}
use Rattle.lv_hub.specs.declared.told.Told.{Told}
use Rattle.lv_standing.specs.Queries.{AreNotesOf, watch_answer}
use Rattle.lv_hub.specs.Noticing.{NoticesState, WroteOrPart, all_told_text}

-- The questions of a subscriber, and what the stream of its notifications has got.
pub record WatchState : Type 0 where
  pub questions : List Query
  pub contents : Option (List ℕ)

-- The answers to some questions after the first n updates of a list.
abbrev pub answers_at : List Edit → ℕ → List Query → List Shown
answers_at edits n questions = map (watch_answer (take n edits)) questions

-- Notifications of one list of updates, of questions whose last answers were `before`. Their versions do not decrease. Each has the plain values
-- that differ from the last answers, as far as notes of them are due. `after` has the last answers at the end.
abbrev pub AreToldOf : List Edit → List Query → ℕ → List Shown → List Told → List Shown → Type 0
AreToldOf edits questions since before [] after = after ≡ before
AreToldOf edits questions since before (told ∷ tolds) after =
    (since ≤ told.edit)
    × (told.edit ≤ length edits)
    × AreNotesOf questions before (answers_at edits told.edit questions) told.notes.items
    × AreToldOf edits questions told.edit (answers_at edits told.edit questions) tolds after

-- The hub has this numbering of its updates.
module _ (numbers : LogHeading) where
  -- The notifications are of this list of updates from the start, with the answers on no elements as the first last answers. The lines of all of
  -- them were written, or a write has failed after no more than a prefix of them.
  pub record ToldOf (edits : List Edit) (old : WatchState) (after : List Shown) (new : NoticesState) : Type 0 where
    pub tolds : List Told
    pub told : AreToldOf edits old.questions 0 (map (watch_answer []) old.questions) tolds after
    pub written : WroteOrPart new.failed old.contents new.contents (all_told_text numbers tolds)

  -- In addition, the last answer of each question is that after all updates.
  abbrev pub IsWatched : List Edit → WatchState → NoticesState → Type 0
  IsWatched edits old new = ToldOf edits old (map (watch_answer edits) old.questions) new

  -- The notifications of each of several subscribers are of the list, up to its end.
  abbrev pub AreWatched : List Edit → List WatchState → List NoticesState → Type 0
  AreWatched edits [] [] = ⊤
  AreWatched edits (old ∷ olds) (new ∷ news) = IsWatched edits old new × AreWatched edits olds news
  AreWatched edits _ _ = ⊥

  -- Sessions and subscribers were served together. The text that was written is the transcript of the list of updates that the subscribers were
  -- notified of.
  pub record ServedWatched (old : List WatchState) (new : List NoticesState) (contents_old contents_new : Option (List ℕ)) : Type 0 where
    pub edits : List Edit
    pub answers : List Claimed
    pub written : Appends contents_old contents_new (transcript_text edits answers)
    pub watched : AreWatched edits old new
