-- Updates as plain numbers.
use Rattle.std.specs.Prelude.{pos}
use Rattle.lv_edits.specs.declared.edit.Edit.{Edit}
use Rattle.lv_edits.specs.declared.edit.Edit.TheVariants.{Push, Pop, Write, Reserve, Swap, Truncate}
use Rattle.lv_transcript.specs.declared.flat_edits.FlatEdit.{FlatEdit}

-- the sort of an update as a number, and the numbers that it has; those that it doesn't have are 0
abbrev pub flat_edit : Edit → FlatEdit
flat_edit (Push x) = record { what = 1; index = 0; second = 0; value = x }
flat_edit Pop = record { what = 2; index = 0; second = 0; value = pos 0 }
flat_edit (Write i x) = record { what = 3; index = i; second = 0; value = x }
flat_edit (Reserve n) = record { what = 4; index = n; second = 0; value = pos 0 }
flat_edit (Swap i j) = record { what = 5; index = i; second = j; value = pos 0 }
flat_edit (Truncate n) = record { what = 6; index = n; second = 0; value = pos 0 }
