-- What a search of a range of a series finds, for C, for the object in a slot.
use Rattle.std.specs.Prelude.{◌≡◌, ℕ, pos, ◌+◌, ◌⊎◌, true, false, Option, Some, None}
use Rattle.lv_series.specs.Places.{IsEndReachedIn, IsFirstIndexIn, IsLastIndexIn, IsPlaceOfBestIn, IsPlaceOfGreatestIn, IsPlaceOfLeastIn, IsStartReachedIn}
use Rattle.lv_series.specs.Series.{Held, keeps_kind, range_refused, with_kind}
use Rattle.lv_series.specs.declared.places.LongPlaced.{LongPlaced}
use Rattle.lv_series.specs.declared.places.LongRun.{LongRun}
use Rattle.lv_series.specs.declared.refusals.LongRefusal.{LongRefusal}
use Rattle.lv_series.specs.declared.refusals.LongRefusal.TheVariants.{NoMemory}
use Rattle.livevec_c.specs.declared.objects.Object.{Object}
use Rattle.livevec_c.specs.declared.series_found.SeriesFound.{SeriesFound}
use Rattle.livevec_c.specs.declared.series_results.Refused.{Refused}
use Rattle.livevec_c.specs.declared.wanted.Wanted.{Wanted}
use Rattle.livevec_c.specs.declared.wanted.Wanted.TheVariants.{Least, Greatest, Best, Reaches, ReachesBack, First, Last}
use Rattle.livevec_c.specs.Answers.{high_half, low_half}
use Rattle.livevec_c.specs.SeriesAnswers.{granted, refused_by, unheld}
use Rattle.livevec_c.specs.SeriesHeld.{AtSeries, Long}
use Rattle.livevec_c.specs.SeriesValued.{unkind}
use Rattle.livevec_c.specs.Wanted.{kind_sought}

-- a search that was refused
abbrev pub long_unfound : Refused → SeriesFound
long_unfound why = record { why = why; edit = 0; lo = 0; hi = 0; value = pos 0; sum_low = 0; sum_high = pos 0; found = false }

-- a search after an edit that found nothing, or a part of the range
abbrev pub long_nowhere : ℕ → SeriesFound
long_nowhere edit = record (long_unfound granted) { edit = edit }

abbrev pub long_part : ℕ → ℕ → ℕ → SeriesFound
long_part edit lo hi = record (long_nowhere edit) { lo = lo; hi = hi; found = true }

-- what was found: an element, from its index up to the next one; a run, with its sum in two halves
abbrev pub long_placed : ℕ → Option LongPlaced → SeriesFound
long_placed edit None = long_nowhere edit
long_placed edit (Some p) = record (long_part edit p.index (p.index + 1)) { value = p.value }

abbrev pub long_run : ℕ → Option LongRun → SeriesFound
long_run edit None = long_nowhere edit
long_run edit (Some r) = record (long_part edit r.from r.to) { sum_low = low_half r.sum; sum_high = high_half r.sum }

-- the part of the range, from its start on or up to its end, that reaches a sum; an element within a bound, from its index up to the next one
abbrev pub long_end : ℕ → ℕ → Option ℕ → SeriesFound
long_end edit lo None = long_nowhere edit
long_end edit lo (Some end) = long_part edit lo end

abbrev pub long_start : ℕ → ℕ → Option ℕ → SeriesFound
long_start edit hi None = long_nowhere edit
long_start edit hi (Some start) = long_part edit start hi

abbrev pub long_index : ℕ → Option ℕ → SeriesFound
long_index edit None = long_nowhere edit
long_index edit (Some i) = long_part edit i (i + 1)

-- what is found in a range of the elements that are kept, after an edit
abbrev pub FindsAt : Wanted → Held → ℕ → ℕ → ℕ → SeriesFound → Type 0
FindsAt Least h lo hi edit answer = (place : Option LongPlaced) × (answer ≡ long_placed edit place) × IsPlaceOfLeastIn h lo hi place
FindsAt Greatest h lo hi edit answer = (place : Option LongPlaced) × (answer ≡ long_placed edit place) × IsPlaceOfGreatestIn h lo hi place
FindsAt Best h lo hi edit answer = (run : Option LongRun) × (answer ≡ long_run edit run) × IsPlaceOfBestIn h lo hi run
FindsAt (Reaches sum) h lo hi edit answer = (end : Option ℕ) × (answer ≡ long_end edit lo end) × IsEndReachedIn sum h lo hi end
FindsAt (ReachesBack sum) h lo hi edit answer = (start : Option ℕ) × (answer ≡ long_start edit hi start) × IsStartReachedIn sum h lo hi start
FindsAt (First bound) h lo hi edit answer = (index : Option ℕ) × (answer ≡ long_index edit index) × IsFirstIndexIn bound h lo hi index
FindsAt (Last bound) h lo hi edit answer = (index : Option ℕ) × (answer ≡ long_index edit index) × IsLastIndexIn bound h lo hi index

-- a search of a series, by the tree of a kind; or the range is refused, or there is no memory for that tree, and nothing has changed
abbrev pub FindsUnless : Option LongRefusal → Wanted → ℕ → ℕ → SeriesFound → Long → Long → Type 0
FindsUnless (Some refusal) wanted lo hi answer old new = (answer ≡ long_unfound (refused_by refusal)) × (new ≡ old)
FindsUnless None wanted lo hi answer old new =
    (FindsAt wanted old.held lo hi old.edits answer × (new ≡ record old { kinds = with_kind (kind_sought wanted) old.kinds }))
    ⊎ ((answer ≡ long_unfound (refused_by NoMemory)) × (keeps_kind old.kinds (kind_sought wanted) ≡ false) × (new ≡ old))

abbrev pub FindsSeries : Wanted → ℕ → ℕ → SeriesFound → Long → Long → Type 0
FindsSeries wanted lo hi answer old new = FindsUnless (range_refused old.held lo hi) wanted lo hi answer old new

-- a search of the object in a slot, if it is known what is looked for
abbrev pub FindsBehind : Option Wanted → ℕ → ℕ → SeriesFound → Option Object → Option Object → Type 0
FindsBehind None lo hi answer old new = (answer ≡ long_unfound unkind) × (new ≡ old)
FindsBehind (Some wanted) lo hi answer old new = AtSeries (FindsSeries wanted lo hi answer) (answer ≡ long_unfound unheld) old new
