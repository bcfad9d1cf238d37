-- How an object that has no parameter begins in a slot.
use Rattle.std.specs.Prelude.{◌≡◌, ℕ, Option, [], nat_eq}
use Rattle.lv_bodies.specs.Plain.{program_table}
use Rattle.livevec_c.specs.declared.objects.Object.{Object}
use Rattle.livevec_c.specs.declared.objects.Object.TheVariants.{Queries}
use Rattle.livevec_c.specs.Behind.{OneOf}
use Rattle.livevec_c.specs.SamplesBehind.{IsNewSamples}
use Rattle.livevec_c.specs.SavedBehind.{IsNewLoader}
use Rattle.livevec_c.specs.SeriesBehind.{IsNewSeries}
use Rattle.livevec_c.specs.SeriesHeld.{Opens}

-- a set without queries
abbrev pub IsNewQueries : Object → Type 0
IsNewQueries object = object ≡ Queries (record { questions = []; told = [] })

-- the object that a number names: a series (0), samples (1), a loader (2), or a set of queries (another number)
abbrev pub IsBegun : ℕ → Object → Type 0
IsBegun what object =
    OneOf (nat_eq what 0) (IsNewSeries program_table object)
    (OneOf (nat_eq what 1) (IsNewSamples program_table object) (OneOf (nat_eq what 2) (IsNewLoader object) (IsNewQueries object)))

-- such an object is put into a slot
abbrev pub Begins : ℕ → ℕ → Option Object → Option Object → Type 0
Begins what number old new = Opens (IsBegun what) number old new
