-- The loop invariant of `Edits::verdict_of_writes`, which returns the error of the first write that would be rejected, or none.
use Rattle.std.proofs.Common.{◌≡◌, ◌-◌, ◌≤◌, drop}
use Rattle.lv_edits.proofs.BatchLaws.{verdict_by}
use Rattle.lv_edits.proofs.edits.Edits.verdict_of_writes.Given as goal

-- the writes so far are not refused, so that those behind them are judged
abbrev pub invariant-loop-place : goal.invariant-loop-place
invariant-loop-place l = record {
  within : l.place ≤ l.left;
  judged : verdict_by l.left l.size l.indices ≡ verdict_by (l.left - l.place) l.size (drop l.place l.indices);
}
