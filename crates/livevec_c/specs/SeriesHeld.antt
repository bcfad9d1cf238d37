-- The series in a slot: the slot holds a series, or samples, whose values are a series.
use Rattle.std.specs.Prelude.{◌≡◌, ℕ, ◌⊎◌, Option, Some, None}
use Rattle.lv_series.specs.Plain.{SeriesState}
use Rattle.livevec_c.specs.declared.objects.Object.{Object}
use Rattle.livevec_c.specs.declared.objects.Object.TheVariants.{Series, Samples}

-- a series for C
abbrev pub Long : Type 0
Long = SeriesState

-- a new object for a slot: there is one in it already, or there is no memory, and it stays empty, or it has one
abbrev pub Opens : (Object → Type 0) → ℕ → Option Object → Option Object → Type 0
Opens is_new number (Some object) new = (number ≡ 104) × (new ≡ Some object)
Opens is_new number None new = ((number ≡ 6) × (new ≡ None)) ⊎ ((number ≡ 0) × ((object : Object) × (new ≡ Some object) × is_new object))

-- the series of an object: that of the values, if it is samples
abbrev pub series_in : Object → Option Long
series_in (Series state) = Some state
series_in (Samples samples) = Some samples.series
series_in other = None

abbrev pub series_behind : Option Object → Option Long
series_behind None = None
series_behind (Some object) = series_in object

-- what a call does to the series of an object, whose times stay; or that there is none, and nothing changes
abbrev pub AtObject : (Long → Long → Type 0) → Type 0 → Object → Object → Type 0
AtObject does otherwise (Series old) new = (state : Long) × (new ≡ Series state) × does old state
AtObject does otherwise (Samples old) new = (state : Long) × (new ≡ Samples (record old { series = state })) × does old.series state
AtObject does otherwise other new = otherwise × (new ≡ other)

-- what a call does to the series of the object in a slot
abbrev pub AtSeries : (Long → Long → Type 0) → Type 0 → Option Object → Option Object → Type 0
AtSeries does otherwise None new = otherwise × (new ≡ None)
AtSeries does otherwise (Some old) new = (object : Object) × (new ≡ Some object) × AtObject does otherwise old object
