-- Named questions at a hub, and what a subscriber is notified of.
use Rattle.std.specs.Prelude.{◌≡◌, ◌<◌, Option, Some, None, List, length, map}
use mathlib.Core.List.{IsPrefix}
use Rattle.lv_geometry.specs.Bounds.{Bounds}
use Rattle.lv_geometry.specs.declared.refusals.Refusal.{Refusal}
use Rattle.lv_bodies.specs.declared.kinds.Shown.{Shown}
use Rattle.lv_standing.specs.declared.queries.Query.{Query}
use Rattle.lv_standing.specs.Queries.{AreNotesOf, query_refusal, watch_answer}
use Rattle.lv_hub.specs.declared.told.Told.{Told}
use Rattle.lv_hub.specs.Counting.{ShareState, having_seen}
use Rattle.lv_hub.specs.Renewing.{IsRun}

-- The precondition check of a new question: a subscriber has at most 64. Running out of memory is not covered here.
abbrev pub question_refusal : List Query → Query → Option Refusal
question_refusal queries q = query_refusal 64 queries q

-- A subscriber: its share of the hub, its questions in the order that they came, and the last answer that was reported for each.
pub record SubscriberState : Type 0 where
  pub share : ShareState
  pub questions : List Query
  pub told : List Shown

-- A subscriber that has ended.
pub record EndedState : Type 0 where
  pub questions : List Query
  pub told : List Shown

-- A subscriber of a hub with these limits was notified. It has seen a later version, its last answers are those at that version, and the notes
-- are those that were due.
pub record HasTold (limits : Bounds) (old new : SubscriberState) (told : Told) : Type 0 where
  pub seen : IsPrefix old.share.seen new.share.seen
  pub later : length old.share.seen < told.edit
  pub edit : told.edit ≡ length new.share.seen
  pub within : IsRun limits new.share.seen
  pub share : new.share ≡ having_seen old.share new.share.seen
  pub questions : new.questions ≡ old.questions
  pub answers : new.told ≡ map (watch_answer new.share.seen) old.questions
  pub notes : AreNotesOf old.questions old.told new.told told.notes.items

-- Either there was nothing to report, and nothing has changed, or the subscriber was notified.
abbrev pub IsToldIf : Bounds → SubscriberState → SubscriberState → Option Told → Type 0
IsToldIf limits old new None = new ≡ old
IsToldIf limits old new (Some told) = HasTold limits old new told
