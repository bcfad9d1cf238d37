-- The search in `place_of`: the place is from `low` up to `high`.
use Rattle.std.proofs.Common.{◌-◌}
use Rattle.lv_series.proofs.TimeLaws.{IsSought}
use Rattle.lv_series.proofs.times.place_of.Given as goal

abbrev pub invariant-loop-low : goal.invariant-loop-low
invariant-loop-low l = IsSought l.times l.time l.low l.high

abbrev pub decreases-loop-low : goal.decreases-loop-low
decreases-loop-low l = l.high - l.low
