-- The states of a subscriber and of the sensors, and what they preserve.
use Rattle.std.specs.Prelude.{◌≡◌, ℕ, ◌+◌, None, List, [], All, map}
use Rattle.std.specs.List.{IsDistinct}
use Rattle.std.specs.List.Sorted.{IsStrictlyIncreasing}
use Rattle.std.specs.Str.{bytes_eq}
use mathlib.Core.List.{IsPrefix}
use Rattle.lv_vector.specs.Shown.{Shown}
use Rattle.lv_vector.specs.Edit.{Edit}
use Rattle.lv_vector.specs.Query.{Query}
use Rattle.lv_vector.specs.ToldType.{Told}
use Rattle.lv_vector.specs.Counting.{ShareState}
use Rattle.lv_vector.specs.Queries.{watch_answer}
use Rattle.lv_vector.specs.Notes.{SubscriberState}
use Rattle.alerts.specs.Alerts.{IsTrueOf, edits_of, told_last}

-- No question has a bound, so each change of an answer is reported.
abbrev pub AreUnbounded : List Query → Type 0
AreUnbounded questions = All (λ q. q.bound ≡ None) questions

-- Questions with distinct names, and no answer of them was reported yet.
pub record IsWatching (questions : List Query) (s : SubscriberState) : Type 0 where
  pub questions_are : s.questions ≡ questions
  pub answers : s.told ≡ map (watch_answer []) questions
  pub apart : IsDistinct bytes_eq (map (λ q. q.name) questions)

-- A subscriber of these questions has seen some updates, and has reported up to a prefix of them.
pub record Follows (questions : List Query) (seen : List Edit) (watched : List Query) (values : List Shown) (told : List Told) : Type 0 where
  pub at : List Edit
  pub begins : IsPrefix at seen
  pub watched_are : watched ≡ questions
  pub unbounded : AreUnbounded questions
  pub apart : IsDistinct bytes_eq (map (λ q. q.name) questions)
  pub values_are : values ≡ map (watch_answer at) questions
  pub true_told : All (IsTrueOf at questions) told
  pub rising : IsStrictlyIncreasing (edits_of told)
  pub answers : All (λ q. told_last told q ≡ watch_answer at q) questions

-- A subscriber that follows continues to follow, with the share that it had.
pub record KeepsFollowing (old new : SubscriberState) (told more : List Told) : Type 0 where
  pub parts : new.share.parts ≡ old.share.parts
  pub count : new.share.count ≡ old.share.count
  pub follows : (questions : List Query) → Follows questions old.share.seen old.questions old.told told → Follows questions new.share.seen new.questions new.told more

-- This many readings were offered, and a share counts those that were accepted.
pub record HasFed (offered : ℕ) (old new : ShareState) (accepted refused : ℕ) : Type 0 where
  pub parts : new.parts ≡ old.parts
  pub count : new.count ≡ old.count + accepted
  pub all : accepted + refused ≡ offered
