-- What many writes at once do and answer, for the object in a slot.
use Rattle.std.specs.Prelude.{◌≡◌, ◌≢◌, ℕ, ℤ, ◌+◌, Option, Some, None, Result, Ok, Err, List, [], ◌∷◌, length, is_some, if◌then◌else◌}
use Rattle.lv_geometry.specs.Numbers.{number_of}
use Rattle.lv_geometry.specs.declared.refusals.Refusal.{Refusal}
use Rattle.lv_edits.specs.declared.edit.Edit.{Edit}
use Rattle.lv_edits.specs.Batches.{AnswersEdits, verdict_of_edits, writes_at}
use Rattle.lv_edits.specs.History.{History, with_edit}
use Rattle.lv_edits.specs.Kept.{IsLegalInLimits}
use Rattle.lv_edits.specs.Verdict.{verdict_of}
use Rattle.lv_live.specs.State.{SameRefresh}
use Rattle.livevec_c.specs.declared.objects.Object.{Object}
use Rattle.livevec_c.specs.declared.objects.Object.TheVariants.{Vector}
use Rattle.livevec_c.specs.declared.writes.Many.{Many}
use Rattle.livevec_c.specs.Answers.{detail_of}
use Rattle.livevec_c.specs.Behind.{State}

-- how many of some edits, one after another, are accepted before the first that is refused for another reason than out of memory
abbrev pub accepted_before : History → List Edit → ℕ
accepted_before h [] = 0
accepted_before h (e ∷ es) = if is_some (verdict_of h.limits h.journal e) then 0 else accepted_before (with_edit h e) es + 1

-- which of some edits is the first that is refused, counted from 0; 0 if none is
abbrev pub place_refused : History → List Edit → ℕ
place_refused h es = if is_some (verdict_of_edits h es) then accepted_before h es else 0

-- the answer if nothing was written: why, and which of the writes is refused
abbrev pub unwritten : ℕ → ℕ → ℕ → Many
unwritten refusal detail place = record { refusal = refusal; detail = detail; edit = 0; done = 0; place = place }

-- the answer to many writes of a history: all of them are made, or none
abbrev pub written_by : History → List Edit → Result ℕ Refusal → Many
written_by h es (Ok edit) = record { refusal = 0; detail = 0; edit = edit; done = length es; place = 0 }
written_by h es (Err refusal) = unwritten (number_of refusal) (detail_of refusal) (place_refused h es)

-- writes of a vector: they are answered as the library answers them, and the summaries and claims stay; if there are not as many values as indices,
-- nothing is written
pub record WritesVector (indices : List ℕ) (xs : List ℤ) (answer : Many) (old new : State) : Type 0 where
  pub paired : length indices ≡ length xs → IsLegalInLimits new.history × SameRefresh old new
      × ((r : Result ℕ Refusal) × (answer ≡ written_by old.history (writes_at indices xs) r) × AnswersEdits old.history (writes_at indices xs) r new.history)
  pub unpaired : length indices ≢ length xs → (answer ≡ unwritten 103 0 0) × (new ≡ old)

-- writes of an object, which is to be a vector
abbrev pub WritesObject : List ℕ → List ℤ → Many → Object → Object → Type 0
WritesObject indices xs answer (Vector old only) new = (state : State) × (new ≡ Vector state only) × WritesVector indices xs answer old state
WritesObject indices xs answer other new = (answer ≡ unwritten 101 0 0) × (new ≡ other)
