-- What the loop keeps in `push_cells`: pushes one of the two scans of a range of a vector, by runs of neighbouring cells.
use Rattle.std.proofs.Common.{◌≡◌, ◌-◌, ◌≤◌, vec_capacity, vec_len}
use Rattle.lv_bodies.specs.Body.{fold_of}
use Rattle.lv_edits.specs.Ranges.{slice_of}
use Rattle.lv_reduce.specs.Answer.{scan_of}
use Rattle.lv_reduce.proofs.parallel.twos.push_cells.Given as goal

-- the scan and the fold of what was read so far, with room for the rest
abbrev pub invariant-loop-at : goal.invariant-loop-at
invariant-loop-at g l =
    let o = g.B.Body.operations l.body in
    record {
      low : l.lo ≤ l.at;
      high : l.at ≤ l.hi;
      values : l.values.items ≡ scan_of l.inclusive o (slice_of l.history.journal l.lo l.at);
      sum : l.sum ≡ fold_of o (slice_of l.history.journal l.lo l.at);
      count : vec_len l.values ≡ l.at - l.lo;
      capacity : vec_capacity l.values ≡ vec_capacity l.initial.values;
    }

-- what is left
abbrev pub decreases-loop-at : goal.decreases-loop-at
decreases-loop-at g l = l.hi - l.at
