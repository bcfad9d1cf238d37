-- What the loop keeps in `copy_range`: the elements of a range, copied out of the vector, with room made at once.
use Rattle.std.proofs.Common.{◌≡◌, ◌-◌, ◌≤◌, vec_capacity, vec_len}
use Rattle.lv_edits.specs.Ranges.{slice_of}
use Rattle.lv_reduce.proofs.parallel.copy_range.Given as goal

-- what was read so far, with room for the rest
abbrev pub invariant-loop-at : goal.invariant-loop-at
invariant-loop-at l = record {
  low : l.lo ≤ l.at;
  high : l.at ≤ l.hi;
  copied : l.xs.items ≡ slice_of l.history.journal l.lo l.at;
  count : vec_len l.xs ≡ l.at - l.lo;
  room : l.hi - l.lo ≤ vec_capacity l.xs;
}

-- what is left
abbrev pub decreases-loop-at : goal.decreases-loop-at
decreases-loop-at l = l.hi - l.at
