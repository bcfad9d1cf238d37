-- The loop invariant of `write_each`, which makes writes that the verdict allows, one after another.
use Rattle.std.proofs.Common.{◌≡◌, ◌-◌, ◌≤◌, None, drop, length}
use Rattle.lv_edits.specs.Batches.{verdict_of_edits, with_edits, writes_at}
use Rattle.lv_edits.specs.Inner.{HoldsReplay, history_of, noted, room}
use Rattle.lv_edits.proofs.writing.write_each.Given as goal

-- the remaining writes lead to the history after all writes, no error applies to any of them, and the journal has room for them
abbrev pub invariant-loop-place : goal.invariant-loop-place
invariant-loop-place l = record {
  held : HoldsReplay l.store (noted l.journal);
  left : with_edits (history_of l.store (noted l.journal)) (writes_at (drop l.place l.indices) (drop l.place l.values)) ≡ with_edits (history_of l.fn.store (noted l.fn.journal)) (writes_at l.indices l.values);
  free : verdict_of_edits (history_of l.store (noted l.journal)) (writes_at (drop l.place l.indices) (drop l.place l.values)) ≡ None;
  room : length l.indices - l.place ≤ room l.journal;
}
