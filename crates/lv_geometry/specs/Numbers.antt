-- The numbers of the errors (*refusals*).
use Rattle.std.specs.Prelude.{ℕ}
use Rattle.lv_geometry.specs.declared.refusals.Refusal.{Refusal}
use Rattle.lv_geometry.specs.declared.refusals.Refusal.TheVariants.{Worn, Empty, OutOfRange, TooLarge, Full, NoMemory, BadRange, BadLimits, BadTable, NameTaken, NoSuchName, TooMany, ReadFault, WriteFault, Stranger, TooWide, Contended, Overtaken, NoJob, NotNow}

-- the number by which an error is shown in scripts and transcripts
abbrev pub number_of : Refusal → ℕ
number_of Worn = 1
number_of Empty = 2
number_of (OutOfRange size) = 3
number_of (TooLarge limit) = 4
number_of Full = 5
number_of NoMemory = 6
number_of BadRange = 7
number_of BadLimits = 8
number_of BadTable = 9
number_of NameTaken = 10
number_of NoSuchName = 11
number_of TooMany = 12
number_of ReadFault = 13
number_of WriteFault = 14
number_of Stranger = 15
number_of TooWide = 16
number_of (Contended edit) = 17
number_of (Overtaken edit) = 18
number_of NoJob = 19
number_of NotNow = 20
