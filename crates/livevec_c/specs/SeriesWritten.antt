-- What many writes at once at a series do and answer, for the object in a slot.
use Rattle.std.specs.Prelude.{◌≡◌, ◌≢◌, ℕ, ℤ, ◌+◌, Option, Some, None, Result, Ok, Err, List, [], ◌∷◌, length, is_some, if◌then◌else◌}
use Rattle.lv_series.specs.Batches.{AnswersEdits, verdict_of_edits, with_edit, writes_at}
use Rattle.lv_series.specs.Series.{refused}
use Rattle.lv_series.specs.declared.edits.LongEdit.{LongEdit}
use Rattle.lv_series.specs.declared.refusals.LongRefusal.{LongRefusal}
use Rattle.livevec_c.specs.declared.objects.Object.{Object}
use Rattle.livevec_c.specs.declared.objects.Object.TheVariants.{Series}
use Rattle.livevec_c.specs.declared.series_results.SeriesMany.{SeriesMany}
use Rattle.livevec_c.specs.SeriesAnswers.{granted, refused_by, unheld, unwritten_by}
use Rattle.livevec_c.specs.SeriesHeld.{Long}

-- how many of some edits, one after another, are accepted before the first that is refused for another reason than out of memory
abbrev pub accepted_before : Long → List LongEdit → ℕ
accepted_before s [] = 0
accepted_before s (edit ∷ edits) = if is_some (refused s edit) then 0 else accepted_before (with_edit s edit) edits + 1

-- which of some edits is the first that is refused, counted from 0; 0 if none is
abbrev pub place_refused : Long → List LongEdit → ℕ
place_refused s edits = if is_some (verdict_of_edits s edits) then accepted_before s edits else 0

-- the answer to many writes: all of them are made, or none
abbrev pub long_written : Long → List LongEdit → Result ℕ LongRefusal → SeriesMany
long_written s edits (Ok edit) = record { why = granted; edit = edit; done = length edits; place = 0 }
long_written s edits (Err refusal) = unwritten_by (refused_by refusal) (place_refused s edits)

-- writes at a series are answered as the library answers them; if there are not as many values as indices, nothing is written
pub record WritesSeries (indices : List ℕ) (xs : List ℤ) (answer : SeriesMany) (old new : Long) : Type 0 where
  pub paired : length indices ≡ length xs → (r : Result ℕ LongRefusal) × (answer ≡ long_written old (writes_at indices xs) r) × AnswersEdits old (writes_at indices xs) r new
  pub unpaired : length indices ≢ length xs → (answer ≡ unwritten_by (record { refusal = 103; first = 0; size = 0 }) 0) × (new ≡ old)

-- writes of an object, which is to be a series
abbrev pub WritesLong : List ℕ → List ℤ → SeriesMany → Object → Object → Type 0
WritesLong indices xs answer (Series old) new = (state : Long) × (new ≡ Series state) × WritesSeries indices xs answer old state
WritesLong indices xs answer other new = (answer ≡ unwritten_by unheld 0) × (new ≡ other)
