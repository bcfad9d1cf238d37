-- What the loop keeps in `scan_cells`: puts the scan of a range of a vector where its values belong, by runs of neighbouring cells.
use Rattle.std.proofs.Common.{◌-◌, ◌≡◌, ◌≤◌, length, take}
use Rattle.lv_edits.specs.Ranges.{slice_of}
use Rattle.lv_reduce.specs.Running.{reached, scan_from}
use Rattle.lv_reduce.proofs.parallel.slices.scan_cells.Given as goal

-- the scan of what was read so far, and what it leads to
abbrev pub invariant-loop-at : goal.invariant-loop-at
invariant-loop-at g l =
    let o = g.B.Body.operations l.body in
    record {
      low : l.lo ≤ l.at;
      high : l.at ≤ l.hi;
      values : take (l.at - l.lo) l.values ≡ scan_from l.inclusive o l.fn.before (slice_of l.history.journal l.lo l.at);
      sum : l.sum ≡ reached o l.fn.before (slice_of l.history.journal l.lo l.at);
      len : length l.values ≡ length l.initial.values;
    }

-- what is left
abbrev pub decreases-loop-at : goal.decreases-loop-at
decreases-loop-at g l = l.hi - l.at
