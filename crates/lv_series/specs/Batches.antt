-- Many edits at once, either all made or none: how they change a series, and what the call returns.
use Rattle.std.specs.Prelude.{◌≡◌, ℕ, ℤ, ◌+◌, Option, Some, None, Result, Ok, Err, List, [], ◌∷◌, length, map}
use Rattle.lv_series.specs.declared.edits.LongEdit.{LongEdit}
use Rattle.lv_series.specs.declared.edits.LongEdit.TheVariants.{Push, Write}
use Rattle.lv_series.specs.declared.refusals.LongRefusal.{LongRefusal}
use Rattle.lv_series.specs.Plain.{SeriesState, after_edits, changed}
use Rattle.lv_series.specs.Series.{IsRefusal, refused}

-- the first of two refusals, if there is one
abbrev pub first_refusal : Option LongRefusal → Option LongRefusal → Option LongRefusal
first_refusal None later = later
first_refusal (Some refusal) later = Some refusal

-- a series after one edit that is possible
abbrev pub with_edit : SeriesState → LongEdit → SeriesState
with_edit s edit = record s { held = changed s.held edit; edits = s.edits + 1 }

-- the refusal of the first edit that is refused, of edits one after another, except for out of memory; none if all are accepted
abbrev pub verdict_of_edits : SeriesState → List LongEdit → Option LongRefusal
verdict_of_edits s [] = None
verdict_of_edits s (edit ∷ edits) = first_refusal (refused s edit) (verdict_of_edits (with_edit s edit) edits)

-- all were accepted: nothing refuses one, the number of the last edit is answered, and the series is what they make of it
pub record AcceptsEdits (old : SeriesState) (edits : List LongEdit) (edit : ℕ) (new : SeriesState) : Type 0 where
  pub free : verdict_of_edits old edits ≡ None
  pub edit_is : edit ≡ old.edits + length edits
  pub after : new ≡ after_edits old edits

-- they were refused, as the first of them that is refused, or, if none is, because memory ran out; nothing has changed
pub record RefusesEdits (old : SeriesState) (edits : List LongEdit) (refusal : LongRefusal) (new : SeriesState) : Type 0 where
  pub why : IsRefusal (verdict_of_edits old edits) refusal
  pub same : new ≡ old

-- what a call answers to many edits
abbrev pub AnswersEdits : SeriesState → List LongEdit → Result ℕ LongRefusal → SeriesState → Type 0
AnswersEdits old edits (Ok edit) new = AcceptsEdits old edits edit new
AnswersEdits old edits (Err refusal) new = RefusesEdits old edits refusal new

-- elements to push; and elements to write under indices, as many of both as there are pairs
abbrev pub pushes_of : List ℤ → List LongEdit
pushes_of xs = map (λ x. Push x) xs

abbrev pub writes_at : List ℕ → List ℤ → List LongEdit
writes_at [] xs = []
writes_at (i ∷ indices) [] = []
writes_at (i ∷ indices) (x ∷ xs) = Write i x ∷ writes_at indices xs
