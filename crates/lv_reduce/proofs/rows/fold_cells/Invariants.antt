-- What the loop keeps in `fold_cells`: the fold of a range of a vector, by runs of neighbouring cells.
use Rattle.std.proofs.Common.{◌≡◌, ◌-◌, ◌≤◌}
use Rattle.lv_bodies.specs.Body.{fold_of}
use Rattle.lv_edits.specs.Ranges.{slice_of}
use Rattle.lv_reduce.proofs.rows.fold_cells.Given as goal

-- the fold of what was read so far
abbrev pub invariant-loop-at : goal.invariant-loop-at
invariant-loop-at g l = record {
  low : l.lo ≤ l.at;
  high : l.at ≤ l.hi;
  sum : l.sum ≡ fold_of (g.B.Body.operations l.body) (slice_of l.history.journal l.lo l.at);
}

-- what is left
abbrev pub decreases-loop-at : goal.decreases-loop-at
decreases-loop-at g l = l.hi - l.at
