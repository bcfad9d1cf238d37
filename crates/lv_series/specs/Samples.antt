-- Samples: values with times that do not fall, under one edit number. What each call answers, and what holds of every list of calls.
use Rattle.std.specs.Prelude.{◌≡◌, ◌⊎◌, ℕ, ℤ, pos, ◌+◌, ◌-◌, ◌-ℤ◌, Bool, true, false, ◌&&◌, Option, Some, None, Result, Ok, Err, List, [], ◌∷◌, ◌++◌, length, take, drop, fold, int_le, int_lt, nat_eq, not, IsTrue, ◌<◌, ◌≤◌, All, if◌then◌else◌}
use Rattle.std.specs.List.{slice_index_or, slice_range}
use Rattle.lv_bodies.specs.declared.kinds.Kind.{Kind}
use Rattle.lv_tree.specs.KindSummaries.{summary_by}
use Rattle.lv_tree.specs.declared.kind_summaries.KindSummary.{KindSummary}
use Rattle.lv_series.specs.Plain.{KeptKinds, SeriesState, after_edits, plain_series, size_of, slice_of}
use Rattle.lv_series.specs.Series.{element_of, is_kept, receipt_of, refused}
use Rattle.lv_series.specs.declared.answers.LongAnswer.{LongAnswer}
use Rattle.lv_series.specs.declared.edits.LongEdit.{LongEdit}
use Rattle.lv_series.specs.declared.edits.LongEdit.TheVariants as edit
use Rattle.lv_series.specs.declared.receipts.LongReceipt.{LongReceipt}
use Rattle.lv_series.specs.declared.refusals.LongRefusal.{LongRefusal}
use Rattle.lv_series.specs.declared.refusals.LongRefusal.TheVariants as refusal
use Rattle.lv_series.specs.declared.sample_edits.Sample.{Sample}
use Rattle.lv_series.specs.declared.sample_edits.SampleEdit.{SampleEdit}
use Rattle.lv_series.specs.declared.sample_edits.SampleEdit.TheVariants.{Push, Pop, Write, Expire, Truncate}
use Rattle.lv_series.specs.declared.sample_edits.SampleRefusal.{SampleRefusal}
use Rattle.lv_series.specs.declared.sample_edits.SampleRefusal.TheVariants.{Earlier, Refused}
use Rattle.lv_series.specs.declared.samples.Window.{Window}

-- samples: a series of their values, and the time of each, in the same order
pub record SamplesState : Type 0 where
  pub series : SeriesState
  pub times : List ℤ

-- times do not fall
pub record IsRising (times : List ℤ) : Type 0 where
  pub rises : (i j : ℕ) → i ≤ j → j < length times → IsTrue (int_le (slice_index_or times i (pos 0)) (slice_index_or times j (pos 0)))

-- the values whose time counts, by a test of times
abbrev pub values_where : (ℤ → Bool) → List ℤ → List ℤ → List ℤ
values_where counts (t ∷ times) (x ∷ values) = (if counts t then x ∷ values_where counts times values else values_where counts times values)
values_where counts _ _ = []

-- a time is in a window: `since` counts, and `until` does not
abbrev pub is_between : ℤ → ℤ → ℤ → Bool
is_between since until t = int_le since t && int_lt t until

-- a time is among the last so much time before the newest one
abbrev pub is_among_last : ℤ → ℕ → ℤ → Bool
is_among_last newest span t = int_lt (newest -ℤ pos span) t

-- the time of the last sample; 0 if there is none
abbrev pub newest_of : List ℤ → ℤ
newest_of times = slice_index_or times (length times - 1) (pos 0)

-- the time of the last sample, or none if there are no samples
abbrev pub newest_in : List ℤ → Option ℤ
newest_in times = if nat_eq (length times) 0 then None else Some (newest_of times)

-- the sample under an index, or the refusal that says which indices there are
abbrev pub sample_at : SamplesState → ℕ → Result Sample LongRefusal
sample_at s i = if is_kept s.series.held i then Ok (record { time = slice_index_or s.times (i - s.series.held.first) (pos 0); value = element_of s.series.held i }) else Err (refusal.OutOfRange s.series.held.first (size_of s.series.held))

-- the times of a range of indices
abbrev pub times_of : SamplesState → ℕ → ℕ → List ℤ
times_of s lo hi = slice_range s.times (lo - s.series.held.first) (hi - s.series.held.first)

-- the values of the samples whose time counts
abbrev pub values_in : SamplesState → (ℤ → Bool) → List ℤ
values_in s counts = values_where counts s.times s.series.held.elements

-- what an edit does to the series of values, and to the times
abbrev pub value_edit : SampleEdit → LongEdit
value_edit (Push t x) = edit.Push x
value_edit Pop = edit.Pop
value_edit (Write i x) = edit.Write i x
value_edit (Expire i) = edit.Expire i
value_edit (Truncate n) = edit.Truncate n

abbrev pub times_after : ℕ → List ℤ → SampleEdit → List ℤ
times_after first times (Push t x) = times ++ t ∷ []
times_after first times Pop = take (length times - 1) times
times_after first times (Write i x) = times
times_after first times (Expire i) = drop (i - first) times
times_after first times (Truncate n) = take (n - first) times

-- samples after an edit that is possible
abbrev pub with_sample_edit : SamplesState → SampleEdit → SamplesState
with_sample_edit s e = record { series = after_edits s.series (value_edit e ∷ []); times = times_after s.series.held.first s.times e }

-- a sample is earlier than the last one
abbrev pub earlier_refusal : List ℤ → SampleEdit → Option SampleRefusal
earlier_refusal times (Push t x) = if not (nat_eq (length times) 0) && int_lt t (newest_of times) then Some (Earlier (newest_of times)) else None
earlier_refusal times _ = None

-- the first of two refusals: as the series of values refuses, or else another
abbrev pub refused_or : Option LongRefusal → Option SampleRefusal → Option SampleRefusal
refused_or (Some r) other = Some (Refused r)
refused_or None other = other

-- why an edit is refused, except for out of memory: as the series of values refuses it, or else because it is earlier than the last sample
abbrev pub sample_refused : SamplesState → SampleEdit → Option SampleRefusal
sample_refused s e = refused_or (refused s.series (value_edit e)) (earlier_refusal s.times e)

-- an edit was accepted: nothing refuses it, it is answered as an edit of the series of values, and times and values have changed by it
pub record AcceptsSample (old : SamplesState) (e : SampleEdit) (receipt : LongReceipt) (new : SamplesState) : Type 0 where
  pub free : sample_refused old e ≡ None
  pub receipt_is : receipt ≡ receipt_of old.series (value_edit e)
  pub after : new ≡ with_sample_edit old e

-- or refused, as that which applies or because memory ran out, and nothing has changed
pub record RefusesSample (old : SamplesState) (e : SampleEdit) (r : SampleRefusal) (new : SamplesState) : Type 0 where
  pub why : (sample_refused old e ≡ Some r) ⊎ ((sample_refused old e ≡ None) × (r ≡ Refused refusal.NoMemory))
  pub same : new ≡ old

-- what a call answers to an edit
abbrev pub AnswersSample : SamplesState → SampleEdit → Result LongReceipt SampleRefusal → SamplesState → Type 0
AnswersSample old e (Ok receipt) new = AcceptsSample old e receipt new
AnswersSample old e (Err r) new = RefusesSample old e r new

-- how many samples of a list have a time before another: the place of the first that has not
abbrev pub count_before : ℤ → List ℤ → ℕ
count_before time [] = 0
count_before time (t ∷ times) = (if int_lt t time then 1 else 0) + count_before time times

-- the indices of the samples of a window: those whose values the window has, side by side
pub record IsWindowOf (s : SamplesState) (counts : ℤ → Bool) (lo hi : ℕ) : Type 0 where
  pub from : s.series.held.first ≤ lo
  pub order : lo ≤ hi
  pub to : hi ≤ size_of s.series.held
  pub values : slice_of s.series.held lo hi ≡ values_in s counts
  pub before : All (λ t. counts t ≡ false) (take (lo - s.series.held.first) s.times)
  pub inside : All (λ t. counts t ≡ true) (slice_range s.times (lo - s.series.held.first) (hi - s.series.held.first))
  pub behind : All (λ t. counts t ≡ false) (drop (hi - s.series.held.first) s.times)

-- a window between two times, or that the second one is before the first
abbrev pub AnswersWindow : SamplesState → ℤ → ℤ → Result Window LongRefusal → Type 0
AnswersWindow s since until (Ok w) = (int_lt until since ≡ false) × IsWindowOf s (is_between since until) w.lo w.hi
AnswersWindow s since until (Err r) = (int_lt until since ≡ true) × (r ≡ refusal.BadRange)

-- how many samples are between two times, or that the second one is before the first
abbrev pub AnswersCount : SamplesState → ℤ → ℤ → Result ℕ LongRefusal → Type 0
AnswersCount s since until (Ok n) = (int_lt until since ≡ false) × (n ≡ length (values_in s (is_between since until)))
AnswersCount s since until (Err r) = (int_lt until since ≡ true) × (r ≡ refusal.BadRange)

-- the answer by a kind over a window of time: the summary of the values of exactly the samples whose time counts, at the last edit
pub record IsSampleValue (s : SamplesState) (k : Kind) (counts : ℤ → Bool) (answer : LongAnswer KindSummary) : Type 0 where
  pub edit : answer.edit ≡ s.series.edits
  pub value : answer.value ≡ summary_by s.series.table k (values_in s counts)

-- the answer by a kind over the window between two times, or that the second one is before the first
abbrev pub AnswersValue : SamplesState → Kind → ℤ → ℤ → Result (LongAnswer KindSummary) LongRefusal → Type 0
AnswersValue s k since until (Ok answer) = (int_lt until since ≡ false) × IsSampleValue s k (is_between since until) answer
AnswersValue s k since until (Err r) = (int_lt until since ≡ true) × (r ≡ refusal.BadRange)

-- a call on samples: an edit, which was accepted or refused, or the tree of a kind
pub data SampleCalled : Type 0 where
  edited : SampleEdit → Bool → SampleCalled
  prepared : Kind → SampleCalled

-- what a call makes of samples
abbrev pub SampleStep : SamplesState → SampleCalled → SamplesState → Type 0
SampleStep s (edited e true) next = next ≡ with_sample_edit s e
SampleStep s (edited e false) next = next ≡ s
SampleStep s (prepared k) next = (kinds : KeptKinds) × (next ≡ record s { series = record (s.series) { kinds = kinds } })

-- calls one after another; the edits among them that were accepted, in order
abbrev pub SampleRun : SamplesState → List SampleCalled → SamplesState → Type 0
SampleRun s [] next = next ≡ s
SampleRun s (call ∷ others) next = (mid : SamplesState) × SampleStep s call mid × SampleRun mid others next

abbrev pub accepted_samples : List SampleCalled → List SampleEdit
accepted_samples [] = []
accepted_samples (edited e accepted ∷ others) = (if accepted then e ∷ [] else []) ++ accepted_samples others
accepted_samples (prepared k ∷ others) = accepted_samples others

-- samples that begin empty and without trees, after some edits
abbrev pub plain_samples : List (List ℕ) → List SampleEdit → SamplesState
plain_samples table edits = fold with_sample_edit (record { series = plain_series table []; times = [] }) edits

-- whatever the calls on new samples, what is kept at the end, and each value over a window of time, is what the accepted edits make without any
-- other call
pub record IsPlainSamples (table : List (List ℕ)) (calls : List SampleCalled) (s : SamplesState) : Type 0 where
  pub times : s.times ≡ (plain_samples table (accepted_samples calls)).times
  pub held : s.series.held ≡ (plain_samples table (accepted_samples calls)).series.held
  pub edits : s.series.edits ≡ length (accepted_samples calls)
  pub values : (k : Kind) (counts : ℤ → Bool) (answer : LongAnswer KindSummary) → IsSampleValue s k counts answer → IsSampleValue (plain_samples table (accepted_samples calls)) k counts answer
