-- The numbers of refusals.
use Rattle.std.specs.Prelude.{ℕ}
use Rattle.lv_series.specs.declared.refusals.LongRefusal.{LongRefusal}
use Rattle.lv_series.specs.declared.sample_edits.SampleRefusal.{SampleRefusal}
use Rattle.lv_series.specs.declared.sample_edits.SampleRefusal.TheVariants.{Earlier, Refused}
use Rattle.lv_series.specs.declared.refusals.LongRefusal.TheVariants.{Worn, Empty, OutOfRange, Full, NoMemory, BadRange}

-- the number of a refusal
abbrev pub number_of : LongRefusal → ℕ
number_of Worn = 1
number_of Empty = 2
number_of (OutOfRange first size) = 3
number_of Full = 5
number_of NoMemory = 6
number_of BadRange = 7

-- the number of a refusal of samples
abbrev pub sample_number_of : SampleRefusal → ℕ
sample_number_of (Refused refusal) = number_of refusal
sample_number_of (Earlier newest) = 21
