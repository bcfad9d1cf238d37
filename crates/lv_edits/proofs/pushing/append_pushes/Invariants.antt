-- The loop invariant of `append_pushes`: pushes of the values so far were appended, and there is room for the rest.
use Rattle.std.proofs.Common.{◌≡◌, ◌-◌, ◌≤◌, ◌++◌, length, map, take}
use Rattle.lv_edits.specs.Inner.{noted, room}
use Rattle.lv_edits.specs.declared.edit.Edit.TheVariants.{Push}
use Rattle.lv_edits.proofs.pushing.append_pushes.Given as goal

-- the pushes so far are behind the edits, and there is room for the others
abbrev pub invariant-loop-value : goal.invariant-loop-value
invariant-loop-value l = record {
  items : noted l.journal ≡ noted l.fn.journal ++ map Push (take l.value-index l.values);
  room : length l.values - l.value-index ≤ room l.journal;
}
