-- What the calls at samples do and answer, for the object in a slot.
use Rattle.std.specs.Prelude.{◌≡◌, ℕ, ℤ, ◌+◌, ◌-◌, Bool, true, false, Option, Some, None, Result, Ok, Err, List, [], length, min}
use Rattle.lv_series.specs.Numbers.{number_of}
use Rattle.lv_series.specs.Samples.{AnswersWindow, IsWindowOf, SamplesState, count_before, is_among_last, newest_of, plain_samples, sample_at, times_of}
use Rattle.lv_series.specs.Series.{range_refused}
use Rattle.lv_series.specs.declared.refusals.LongRefusal.{LongRefusal}
use Rattle.lv_series.specs.declared.sample_edits.Sample.{Sample}
use Rattle.lv_series.specs.declared.sample_edits.SampleEdit.{SampleEdit}
use Rattle.lv_series.specs.declared.sample_edits.SampleEdit.TheVariants as sampled
use Rattle.lv_series.specs.declared.samples.Window.{Window}
use Rattle.livevec_c.specs.declared.objects.Object.{Object}
use Rattle.livevec_c.specs.declared.objects.Object.TheVariants.{Samples}
use Rattle.livevec_c.specs.declared.series_results.SampleElement.{SampleElement}
use Rattle.livevec_c.specs.declared.samples.SampleWindow.{SampleWindow}
use Rattle.livevec_c.specs.declared.series_results.SeriesEdited.{SeriesEdited}
use Rattle.livevec_c.specs.declared.series_results.SeriesScanned.{SeriesScanned}
use Rattle.livevec_c.specs.SeriesAnswers.{granted, long_scanned, refused_by, unedited_by, unelement, unheld, unscanned_by}
use Rattle.livevec_c.specs.SeriesBehind.{EditsSamples, element_in}
use Rattle.livevec_c.specs.SeriesHeld.{series_in}
use Rattle.livevec_c.specs.SeriesPieces.{put_in, put_there, read_in}

-- an object that is samples without any value, by an automaton of this table
abbrev pub IsNewSamples : List (List ℕ) → Object → Type 0
IsNewSamples table object = object ≡ Samples (plain_samples table [])

-- an edit of samples: a push, or an expiry of those that were taken before a time
abbrev pub sample_edit : Bool → ℤ → ℤ → SamplesState → SampleEdit
sample_edit true time x s = sampled.Expire (s.series.held.first + count_before time s.times)
sample_edit false time x s = sampled.Push time x

-- an edit of an object, which is to be samples
abbrev pub SamplesObject : Bool → ℤ → ℤ → SeriesEdited → Object → Object → Type 0
SamplesObject expires time x answer (Samples old) new = (state : SamplesState) × (new ≡ Samples state) × EditsSamples (sample_edit expires time x old) answer old state
SamplesObject expires time x answer other new = (answer ≡ unedited_by unheld) × (new ≡ other)

-- an edit of the object in a slot
abbrev pub SamplesEdited : Bool → ℤ → ℤ → SeriesEdited → Option Object → Option Object → Type 0
SamplesEdited expires time x answer None new = (answer ≡ unedited_by unheld) × (new ≡ None)
SamplesEdited expires time x answer (Some old) new = (object : Object) × (new ≡ Some object) × SamplesObject expires time x answer old object

-- the sample under an index
abbrev pub sample_told : Result Sample LongRefusal → SampleElement
sample_told (Ok s) = record { why = granted; time = s.time; value = s.value }
sample_told (Err refusal) = unelement (refused_by refusal)

abbrev pub sample_in : ℕ → Object → SampleElement
sample_in index (Samples s) = sample_told (sample_at s index)
sample_in index other = unelement unheld

-- the element under an index, with its time, of samples only; or without a time, of a series too
abbrev pub element_told : Bool → ℕ → Object → SampleElement
element_told true index object = sample_in index object
element_told false index object = element_in index (series_in object)

abbrev pub element_behind : Bool → ℕ → Option Object → SampleElement
element_behind timed index None = unelement unheld
element_behind timed index (Some object) = element_told timed index object

-- the indices of a window, after the last edit
abbrev pub unwindowed : ℕ → SampleWindow
unwindowed refusal = record { refusal = refusal; edit = 0; lo = 0; hi = 0 }

abbrev pub TellsWindow : ℕ → Result Window LongRefusal → SampleWindow → Type 0
TellsWindow edit (Ok w) answer = answer ≡ record { refusal = 0; edit = edit; lo = w.lo; hi = w.hi }
TellsWindow edit (Err refusal) answer = answer ≡ unwindowed (number_of refusal)

-- a window of samples: those between two times, or those of the last so much time
abbrev pub WindowOf : Bool → ℤ → ℤ → ℕ → SampleWindow → SamplesState → Type 0
WindowOf true since until span answer s = (w : Window) × TellsWindow s.series.edits (Ok w) answer × IsWindowOf s (is_among_last (newest_of s.times) span) w.lo w.hi
WindowOf false since until span answer s = (r : Result Window LongRefusal) × TellsWindow s.series.edits r answer × AnswersWindow s since until r

abbrev pub WindowsIn : Bool → ℤ → ℤ → ℕ → SampleWindow → Object → Type 0
WindowsIn last since until span answer (Samples s) = WindowOf last since until span answer s
WindowsIn last since until span answer other = answer ≡ unwindowed 101

abbrev pub WindowsBehind : Bool → ℤ → ℤ → ℕ → SampleWindow → Option Object → Type 0
WindowsBehind last since until span answer None = answer ≡ unwindowed 101
WindowsBehind last since until span answer (Some object) = WindowsIn last since until span answer object

-- the times of a range of indices from its start on, as many as a buffer takes
abbrev pub times_in : ℕ → ℕ → ℕ → Object → SeriesScanned
times_in lo hi places (Samples s) = long_scanned (range_refused s.series.held lo hi) s.series.edits (min places (hi - lo))
times_in lo hi places other = unscanned_by unheld

abbrev pub times_put_in : ℕ → ℕ → List ℤ → Object → List ℤ
times_put_in lo hi old (Samples s) = put_there (range_refused s.series.held lo hi) (min (length old) (hi - lo)) (times_of s lo (lo + min (length old) (hi - lo))) old
times_put_in lo hi old other = old

-- the times of a range, or its elements
abbrev pub told_in : Bool → ℕ → ℕ → ℕ → Object → SeriesScanned
told_in true lo hi places object = times_in lo hi places object
told_in false lo hi places object = read_in lo hi places (series_in object)

abbrev pub told_put_in : Bool → ℕ → ℕ → List ℤ → Object → List ℤ
told_put_in true lo hi old object = times_put_in lo hi old object
told_put_in false lo hi old object = put_in lo hi old (series_in object)

-- the times or the elements of a range, of the object in a slot
abbrev pub told_behind : Bool → ℕ → ℕ → ℕ → Option Object → SeriesScanned
told_behind times lo hi places None = unscanned_by unheld
told_behind times lo hi places (Some object) = told_in times lo hi places object

abbrev pub told_put_behind : Bool → ℕ → ℕ → List ℤ → Option Object → List ℤ
told_put_behind times lo hi old None = old
told_put_behind times lo hi old (Some object) = told_put_in times lo hi old object
