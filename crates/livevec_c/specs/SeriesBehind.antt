-- What the calls at a series do and answer, for the object in a slot.
use Rattle.std.specs.Prelude.{◌≡◌, ℕ, ◌⊎◌, Bool, true, false, Option, Some, None, Result, List, []}
use Rattle.lv_series.specs.Series.{Answers, element_at, range_refused, slice_of}
use Rattle.lv_series.specs.Plain.{KeptKinds, plain_series}
use Rattle.lv_series.specs.Samples.{AnswersSample, SamplesState}
use Rattle.lv_series.specs.declared.edits.LongEdit.{LongEdit}
use Rattle.lv_series.specs.declared.edits.LongEdit.TheVariants as asked
use Rattle.lv_series.specs.declared.receipts.LongReceipt.{LongReceipt}
use Rattle.lv_series.specs.declared.refusals.LongRefusal.{LongRefusal}
use Rattle.lv_series.specs.declared.refusals.LongRefusal.TheVariants.{NoMemory}
use Rattle.lv_series.specs.declared.sample_edits.SampleEdit.{SampleEdit}
use Rattle.lv_series.specs.declared.sample_edits.SampleEdit.TheVariants as sampled
use Rattle.lv_series.specs.declared.sample_edits.SampleRefusal.{SampleRefusal}
use Rattle.livevec_c.specs.declared.objects.Object.{Object}
use Rattle.livevec_c.specs.declared.objects.Object.TheVariants.{Series, Samples}
use Rattle.livevec_c.specs.declared.series_results.SeriesEdited.{SeriesEdited}
use Rattle.livevec_c.specs.declared.series_results.SampleElement.{SampleElement}
use Rattle.livevec_c.specs.declared.series_results.SeriesReduced.{SeriesReduced}
use Rattle.livevec_c.specs.Cells.{values_cell}
use Rattle.livevec_c.specs.SeriesAnswers.{long_edited, long_element, long_valued, refused_by, sample_edited, unedited_by, unelement, unheld, unreduced_by}
use Rattle.livevec_c.specs.SeriesHeld.{AtObject, Long, series_in}

-- a series without elements, by an automaton of this table
abbrev pub IsNewSeries : List (List ℕ) → Object → Type 0
IsNewSeries table object = object ≡ Series (plain_series table [])

-- an edit of a series is answered as the library answers it
abbrev pub EditsSeries : LongEdit → SeriesEdited → Long → Long → Type 0
EditsSeries edit answer old new = (r : Result LongReceipt LongRefusal) × (answer ≡ long_edited r) × Answers old edit r new

-- the edit of samples that an edit of their values is: each value keeps its time, so none is put there or exchanged
abbrev pub sample_edit_of : LongEdit → Option SampleEdit
sample_edit_of asked.Pop = Some sampled.Pop
sample_edit_of (asked.Write i x) = Some (sampled.Write i x)
sample_edit_of (asked.Expire i) = Some (sampled.Expire i)
sample_edit_of (asked.Truncate n) = Some (sampled.Truncate n)
sample_edit_of other = None

-- an edit of samples is answered as the library answers it
abbrev pub EditsSamples : SampleEdit → SeriesEdited → SamplesState → SamplesState → Type 0
EditsSamples edit answer old new = (r : Result LongReceipt SampleRefusal) × (answer ≡ sample_edited r) × AnswersSample old edit r new

-- such an edit of samples, if there is one
abbrev pub EditsSamplesBy : Option SampleEdit → SeriesEdited → SamplesState → Object → Type 0
EditsSamplesBy None answer old new = (answer ≡ unedited_by unheld) × (new ≡ Samples old)
EditsSamplesBy (Some edit) answer old new = (state : SamplesState) × (new ≡ Samples state) × EditsSamples edit answer old state

-- an edit of an object: of a series, or of the values of samples
abbrev pub EditsLong : LongEdit → SeriesEdited → Object → Object → Type 0
EditsLong edit answer (Series old) new = (state : Long) × (new ≡ Series state) × EditsSeries edit answer old state
EditsLong edit answer (Samples old) new = EditsSamplesBy (sample_edit_of edit) answer old new
EditsLong edit answer other new = (answer ≡ unedited_by unheld) × (new ≡ other)

-- an edit of the object in a slot
abbrev pub EditsBehind : LongEdit → SeriesEdited → Option Object → Option Object → Type 0
EditsBehind edit answer None new = (answer ≡ unedited_by unheld) × (new ≡ None)
EditsBehind edit answer (Some old) new = (object : Object) × (new ≡ Some object) × EditsLong edit answer old object

-- an edit of the object in a slot, if there is such an edit
abbrev pub EditsBehindBy : Option LongEdit → SeriesEdited → Option Object → Option Object → Type 0
EditsBehindBy None answer old new = (answer ≡ unedited_by unheld) × (new ≡ old)
EditsBehindBy (Some edit) answer old new = EditsBehind edit answer old new

-- the element under an index of a series, if there is a series
abbrev pub element_in : ℕ → Option Long → SampleElement
element_in index None = unelement unheld
element_in index (Some s) = long_element (element_at s.held index)

-- the plain values of the elements of a range after the last edit
abbrev pub values_of : ℕ → ℕ → Long → SeriesReduced
values_of lo hi s = long_valued (range_refused s.held lo hi) s.edits (values_cell s.table (slice_of s.held lo hi))

abbrev pub values_in : ℕ → ℕ → Option Long → SeriesReduced
values_in lo hi None = unreduced_by unheld
values_in lo hi (Some s) = values_of lo hi s

-- a series that differs at most in which kinds have a tree; and that all kinds have one
abbrev pub IsSameButKinds : Long → Long → Type 0
IsSameButKinds old new = (kinds : KeptKinds) × (new ≡ record old { kinds = kinds })

abbrev pub all_kinds : KeptKinds
all_kinds = record { sum = true; least = true; greatest = true; best = true; affine = true; automaton = true }

-- a series that was asked by all six kinds: unchanged, if the range is refused; else each kind has a tree
abbrev pub with_all : Option LongRefusal → Long → Long
with_all (Some refusal) s = s
with_all None s = record s { kinds = all_kinds }

-- the answer to such a query: as of a reduction; or there is no memory for a tree, if the range is not refused
abbrev pub AsksSeries : ℕ → ℕ → SeriesReduced → Long → Long → Type 0
AsksSeries lo hi answer old new =
    ((answer ≡ values_of lo hi old) × (new ≡ with_all (range_refused old.held lo hi) old))
    ⊎ ((answer ≡ unreduced_by (refused_by NoMemory)) × (range_refused old.held lo hi ≡ None) × IsSameButKinds old new)

-- a query of an object by all six kinds: each kind's tree is made first, or the object stays as it is
abbrev pub SixLong : Bool → ℕ → ℕ → SeriesReduced → Object → Object → Type 0
SixLong true lo hi answer old new = AtObject (AsksSeries lo hi answer) (answer ≡ unreduced_by unheld) old new
SixLong false lo hi answer old new = (answer ≡ values_in lo hi (series_in old)) × (new ≡ old)

-- a query of the object in a slot by all six kinds
abbrev pub SixBehind : Bool → ℕ → ℕ → SeriesReduced → Option Object → Option Object → Type 0
SixBehind trees lo hi answer None new = (answer ≡ unreduced_by unheld) × (new ≡ None)
SixBehind trees lo hi answer (Some old) new = (object : Object) × (new ≡ Some object) × SixLong trees lo hi answer old object
