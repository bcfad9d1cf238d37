-- What the loop keeps in `lay_runs`, which puts the elements of a range into a buffer that has exactly as many places.
use Rattle.std.proofs.Common.{◌-◌, ◌≡◌, ◌≤◌, length, take}
use Rattle.lv_edits.specs.Ranges.{slice_of}
use Rattle.livevec_c.proofs.range_reads.lay_runs.Given as goal

-- the elements that were read so far
abbrev pub invariant-loop-at : goal.invariant-loop-at
invariant-loop-at l = record {
  low : l.lo ≤ l.at;
  high : l.at ≤ l.hi;
  put : take (l.at - l.lo) l.buffer ≡ slice_of l.history.journal l.lo l.at;
  len : length l.buffer ≡ length l.initial.buffer;
}

-- what is left
abbrev pub decreases-loop-at : goal.decreases-loop-at
decreases-loop-at l = l.hi - l.at
