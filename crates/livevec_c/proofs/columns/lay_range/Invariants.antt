-- What the loop keeps in `lay_range`, which puts the cells of a scan of a range into a column that has exactly as many places.
use Rattle.std.proofs.Common.{◌-◌, ◌≡◌, ◌≤◌, length, map, take}
use Rattle.lv_bodies.specs.Body.{fold_of}
use Rattle.lv_edits.specs.Ranges.{slice_of}
use Rattle.lv_reduce.specs.Answer.{scan_of}
use Rattle.livevec_c.proofs.columns.lay_range.Given as goal

-- the cells of the scan of what was read so far, and the summary that it leads to
abbrev pub invariant-loop-at : goal.invariant-loop-at
invariant-loop-at g l =
    let o = g.B.Body.operations l.body in
    record {
      low : l.lo ≤ l.at;
      high : l.at ≤ l.hi;
      cells : take (l.at - l.lo) l.column ≡ map g.B.Celled.cell_of (scan_of l.inclusive o (slice_of l.history.journal l.lo l.at));
      sum : l.sum ≡ fold_of o (slice_of l.history.journal l.lo l.at);
      len : length l.column ≡ length l.initial.column;
    }

-- what is left
abbrev pub decreases-loop-at : goal.decreases-loop-at
decreases-loop-at g l = l.hi - l.at
