-- What many pushes or writes at once at a series do and answer, for the object in a slot.
use Rattle.std.specs.Prelude.{◌≡◌, ℕ, ℤ, Bool, true, false, Option, Some, None, Result, Ok, Err, List, length}
use Rattle.lv_series.specs.Batches.{AnswersEdits, pushes_of}
use Rattle.lv_series.specs.declared.refusals.LongRefusal.{LongRefusal}
use Rattle.livevec_c.specs.declared.objects.Object.{Object}
use Rattle.livevec_c.specs.declared.objects.Object.TheVariants.{Series}
use Rattle.livevec_c.specs.declared.series_results.SeriesMany.{SeriesMany}
use Rattle.livevec_c.specs.SeriesAnswers.{granted, refused_by, unheld, unwritten_by}
use Rattle.livevec_c.specs.SeriesHeld.{Long}
use Rattle.livevec_c.specs.SeriesWritten.{WritesLong}

-- the answer to so many pushes: all of them are made, or none
abbrev pub long_pushed : ℕ → Result ℕ LongRefusal → SeriesMany
long_pushed many (Ok edit) = record { why = granted; edit = edit; done = many; place = 0 }
long_pushed many (Err refusal) = unwritten_by (refused_by refusal) 0

-- pushes at a series are answered as the library answers them
abbrev pub PushesSeries : List ℤ → SeriesMany → Long → Long → Type 0
PushesSeries xs answer old new = (r : Result ℕ LongRefusal) × (answer ≡ long_pushed (length xs) r) × AnswersEdits old (pushes_of xs) r new

-- pushes of an object, which is to be a series
abbrev pub PushesLong : List ℤ → SeriesMany → Object → Object → Type 0
PushesLong xs answer (Series old) new = (state : Long) × (new ≡ Series state) × PushesSeries xs answer old state
PushesLong xs answer other new = (answer ≡ unwritten_by unheld 0) × (new ≡ other)

-- pushes of an object, or writes
abbrev pub EditsAll : Bool → List ℕ → List ℤ → SeriesMany → Object → Object → Type 0
EditsAll true indices xs answer old new = PushesLong xs answer old new
EditsAll false indices xs answer old new = WritesLong indices xs answer old new

-- pushes or writes of the object in a slot
abbrev pub EditsAllBehind : Bool → List ℕ → List ℤ → SeriesMany → Option Object → Option Object → Type 0
EditsAllBehind pushes indices xs answer None new = (answer ≡ unwritten_by unheld 0) × (new ≡ None)
EditsAllBehind pushes indices xs answer (Some old) new = (object : Object) × (new ≡ Some object) × EditsAll pushes indices xs answer old object
