-- What saving and loading a series, or samples, does and answers, for the object in a slot.
use Rattle.std.specs.Prelude.{◌≡◌, ℕ, ◌%◌, ◌++◌, ◌⊎◌, Bool, true, false, Option, Some, None, Result, Ok, Err, List, []}
use Rattle.lv_saved.specs.Numbers.{number_of}
use Rattle.lv_saved.specs.Readings.{IsNoneSaved}
use Rattle.lv_saved.specs.Saved.{IsPiece, bytes_of, saved_samples, saved_series}
use Rattle.lv_saved.specs.declared.refusals.LoadRefusal.{LoadRefusal}
use Rattle.lv_saved.specs.declared.refusals.LoadRefusal.TheVariants as load
use Rattle.lv_series.specs.Plain.{no_kinds, SeriesState}
use Rattle.lv_series.specs.Samples.{SamplesState}
use Rattle.livevec_c.specs.declared.objects.Object.{Object}
use Rattle.livevec_c.specs.declared.objects.Object.TheVariants.{Loader, Samples, Series}
use Rattle.livevec_c.specs.declared.series_results.SeriesScanned.{SeriesScanned}
use Rattle.livevec_c.specs.SeriesAnswers.{granted, unheld, unscanned_by}

-- what is saved of an object: its bytes, and after which edit they are those
pub record Bytes : Type 0 where
  pub bytes : List ℕ
  pub edit : ℕ

abbrev pub saved_in : Object → Option Bytes
saved_in (Series s) = Some record { bytes = bytes_of (saved_series s); edit = s.edits }
saved_in (Samples s) = Some record { bytes = bytes_of (saved_samples s); edit = s.series.edits }
saved_in other = None

abbrev pub saved_behind : Option Object → Option Bytes
saved_behind None = None
saved_behind (Some object) = saved_in object

-- a piece of these bytes, from a place on that is a multiple of 8; the buffer is as it was if the call is refused
abbrev pub SavesFrom : Option Bytes → ℕ → SeriesScanned → List ℕ → List ℕ → Type 0
SavesFrom None from answer old new = (answer ≡ unscanned_by unheld) × (new ≡ old)
SavesFrom (Some saved) from answer old new = (count : ℕ) × (answer ≡ record { why = granted; edit = saved.edit; length = count }) × IsPiece saved.bytes from old count new

pub record SavesIn (saved : Option Bytes) (from : ℕ) (answer : SeriesScanned) (old new : List ℕ) : Type 0 where
  pub whole : from % 8 ≡ 0 → SavesFrom saved from answer old new
  pub broken : (from % 8 ≡ 0 → ⊥) → (answer ≡ unscanned_by (record { refusal = 7; first = 0; size = 0 })) × (new ≡ old)

-- a loader that was given nothing yet
abbrev pub IsNewLoader : Object → Type 0
IsNewLoader object = object ≡ Loader []

-- bytes are taken in after the others, or there is no memory for them, and nothing has changed
abbrev pub GivesObject : List ℕ → ℕ → Object → Object → Type 0
GivesObject bytes number (Loader old) new = ((number ≡ 0) × (new ≡ Loader (old ++ bytes))) ⊎ ((number ≡ 6) × (new ≡ Loader old))
GivesObject bytes number other new = (number ≡ 101) × (new ≡ other)

abbrev pub GivesBytes : List ℕ → ℕ → Option Object → Option Object → Type 0
GivesBytes bytes number None new = (number ≡ 101) × (new ≡ None)
GivesBytes bytes number (Some old) new = (object : Object) × (new ≡ Some object) × GivesObject bytes number old object

-- an object has exactly these bytes: samples, if that is asked, or else a series; no kind has a tree
abbrev pub HasBytes : Bool → List ℕ → Object → Type 0
HasBytes true bytes object = (s : SamplesState) × (object ≡ Samples s) × (bytes_of (saved_samples s) ≡ bytes) × (s.series.kinds ≡ no_kinds)
HasBytes false bytes object = (s : SeriesState) × (object ≡ Series s) × (bytes_of (saved_series s) ≡ bytes) × (s.kinds ≡ no_kinds)

-- bytes are loaded; or nothing that can be saved has them, or there is no memory
abbrev pub LoadsOf : Bool → List ℕ → Result Object LoadRefusal → Type 0
LoadsOf timed bytes (Ok object) = HasBytes timed bytes object
LoadsOf timed bytes (Err load.Damaged) = IsNoneSaved bytes timed
LoadsOf timed bytes (Err load.NoMemory) = Unit {0}

-- the slot holds what was loaded; or it is empty, and the number says why
abbrev pub PlacesLoaded : Result Object LoadRefusal → ℕ → Option Object → Type 0
PlacesLoaded (Ok object) number slot = (number ≡ 0) × (slot ≡ Some object)
PlacesLoaded (Err refusal) number slot = (number ≡ number_of refusal) × (slot ≡ None)

-- the end of a load of these bytes
abbrev pub EndsLoadOf : Bool → List ℕ → ℕ → Option Object → Type 0
EndsLoadOf timed bytes number new = (r : Result Object LoadRefusal) × LoadsOf timed bytes r × PlacesLoaded r number new

abbrev pub EndsLoadIn : Bool → Object → ℕ → Option Object → Type 0
EndsLoadIn timed (Loader bytes) number new = EndsLoadOf timed bytes number new
EndsLoadIn timed other number new = (number ≡ 101) × (new ≡ Some other)

abbrev pub EndsLoad : Bool → ℕ → Option Object → Option Object → Type 0
EndsLoad timed number None new = (number ≡ 101) × (new ≡ None)
EndsLoad timed number (Some old) new = EndsLoadIn timed old number new
