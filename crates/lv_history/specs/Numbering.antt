-- The numbers by which a hub reports its updates, if it continues a log.
use Rattle.std.specs.Prelude.{ℕ, ◌+◌, ◌-◌}
use Rattle.lv_transcript.specs.declared.log_heading.LogHeading.{LogHeading}

-- No log came before: each update has its own number.
abbrev pub from_the_first : LogHeading
from_the_first = record { base = 0; elements = 0 }

-- The reported number of the hub's update e. The first updates of the hub are the pushes of the elements that there were at the log's base.
abbrev pub told_number : LogHeading → ℕ → ℕ
told_number from e = from.base + (e - from.elements)
