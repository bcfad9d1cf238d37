-- The answers of a series, laid out for C.
use Rattle.std.specs.Prelude.{ℕ, ℤ, pos, Option, Some, None, Result, Ok, Err}
use Rattle.lv_series.specs.Numbers.{number_of}
use Rattle.lv_series.specs.declared.receipts.LongReceipt.{LongReceipt}
use Rattle.lv_series.specs.declared.receipts.LongReceipt.TheVariants.{Pushed, Popped, Written, Expired, Swapped, Truncated}
use Rattle.lv_series.specs.declared.refusals.LongRefusal.{LongRefusal}
use Rattle.lv_series.specs.declared.refusals.LongRefusal.TheVariants.{OutOfRange}
use Rattle.lv_series.specs.declared.sample_edits.SampleRefusal.{SampleRefusal}
use Rattle.lv_series.specs.declared.sample_edits.SampleRefusal.TheVariants.{Earlier, Refused}
use Rattle.livevec_c.specs.declared.values.PlainValues.{PlainValues}
use Rattle.livevec_c.specs.declared.series_results.Refused.{Refused as Why}
use Rattle.livevec_c.specs.declared.series_results.SeriesEdited.{SeriesEdited}
use Rattle.livevec_c.specs.declared.series_results.SampleElement.{SampleElement}
use Rattle.livevec_c.specs.declared.series_results.SeriesMany.{SeriesMany}
use Rattle.livevec_c.specs.declared.series_results.SeriesReduced.{SeriesReduced}
use Rattle.livevec_c.specs.declared.series_results.SeriesScanned.{SeriesScanned}
use Rattle.livevec_c.specs.Answers.{valueless}

-- the reason of a call that was not refused, and of one at a slot that holds no series
abbrev pub granted : Why
granted = record { refusal = 0; first = 0; size = 0 }

abbrev pub unheld : Why
unheld = record { refusal = 101; first = 0; size = 0 }

-- the reason of a call that asks for a query that isn't there
abbrev pub unnamed : ℕ → Why
unnamed refusal = record { refusal = refusal; first = 0; size = 0 }

-- why the library refused a call; for an index that isn't kept, with the indices that are
abbrev pub refused_by : LongRefusal → Why
refused_by (OutOfRange first size) = record { refusal = 3; first = first; size = size }
refused_by refusal = record { refusal = number_of refusal; first = 0; size = 0 }

-- an edit that was refused
abbrev pub unedited_by : Why → SeriesEdited
unedited_by why = record { why = why; edit = 0; place = 0; value = pos 0 }

-- an edit's receipt: its number, and a place, how many, or an element
abbrev pub long_received : LongReceipt → SeriesEdited
long_received (Pushed edit index) = record { why = granted; edit = edit; place = index; value = pos 0 }
long_received (Popped edit value) = record { why = granted; edit = edit; place = 0; value = value }
long_received (Written edit before) = record { why = granted; edit = edit; place = 0; value = before }
long_received (Expired edit dropped) = record { why = granted; edit = edit; place = dropped; value = pos 0 }
long_received (Swapped edit first second) = record { why = granted; edit = edit; place = 0; value = first }
long_received (Truncated edit dropped) = record { why = granted; edit = edit; place = dropped; value = pos 0 }

-- an edit's answer
abbrev pub long_edited : Result LongReceipt LongRefusal → SeriesEdited
long_edited (Ok receipt) = long_received receipt
long_edited (Err refusal) = unedited_by (refused_by refusal)

-- the answer of an edit of samples; if its time was earlier than that of the last sample, the answer has the latter
abbrev pub sample_edited : Result LongReceipt SampleRefusal → SeriesEdited
sample_edited (Ok receipt) = long_received receipt
sample_edited (Err (Refused refusal)) = unedited_by (refused_by refusal)
sample_edited (Err (Earlier newest)) = record { why = record { refusal = 21; first = 0; size = 0 }; edit = 0; place = 0; value = newest }

-- an element's answer, without a time
abbrev pub unelement : Why → SampleElement
unelement why = record { why = why; time = pos 0; value = pos 0 }

abbrev pub long_element : Result ℤ LongRefusal → SampleElement
long_element (Ok value) = record { why = granted; time = pos 0; value = value }
long_element (Err refusal) = unelement (refused_by refusal)

-- a reduction's answer
abbrev pub unreduced_by : Why → SeriesReduced
unreduced_by why = record { why = why; edit = 0; values = valueless }

-- a reduction's answer, by why its range is refused, if it is, by the last edit's number, and by the values
abbrev pub long_valued : Option LongRefusal → ℕ → PlainValues → SeriesReduced
long_valued None edit values = record { why = granted; edit = edit; values = values }
long_valued (Some refusal) edit values = unreduced_by (refused_by refusal)

-- the answer to many writes that were not made: why, and which of them is refused
abbrev pub unwritten_by : Why → ℕ → SeriesMany
unwritten_by why place = record { why = why; edit = 0; done = 0; place = place }

-- the answer of a piece of a range that was put into a buffer: the last edit's number, and how many places it took
abbrev pub unscanned_by : Why → SeriesScanned
unscanned_by why = record { why = why; edit = 0; length = 0 }

abbrev pub long_scanned : Option LongRefusal → ℕ → ℕ → SeriesScanned
long_scanned None edit many = record { why = granted; edit = edit; length = many }
long_scanned (Some refusal) edit many = unscanned_by (refused_by refusal)
