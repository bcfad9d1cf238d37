-- Ranges of a vector's elements: which ones are rejected, and their elements.
use Rattle.std.specs.Prelude.{ℕ, ℤ, Option, Some, None, List, length, nat_lt, if◌then◌else◌}
use Rattle.std.specs.List.{slice_range}
use Rattle.lv_geometry.specs.declared.refusals.Refusal.{Refusal}
use Rattle.lv_geometry.specs.declared.refusals.Refusal.TheVariants.{BadRange, OutOfRange}
use Rattle.lv_edits.specs.declared.edit.Edit.{Edit}
use Rattle.lv_edits.specs.History.{list_of}

-- why a range is rejected: its start is past its end, or else its end is past the end of the vector
abbrev pub range_refusal : List Edit → ℕ → ℕ → Option Refusal
range_refusal edits lo hi = if nat_lt hi lo then Some BadRange else (if nat_lt (length (list_of edits)) hi then Some (OutOfRange (length (list_of edits))) else None)

-- the elements of a range, whose end is excluded
abbrev pub slice_of : List Edit → ℕ → ℕ → List ℤ
slice_of edits lo hi = slice_range (list_of edits) lo hi
