-- What the loop keeps in `greatest_fresh`: the greatest fresh node that begins at index `at` and ends at or before `hi`, or none.
use Rattle.std.proofs.Common.{◌≤◌}
use Rattle.lv_summary.specs.Table.{fresh_in}
use Rattle.lv_reduce.specs.Pieces.{Fits, NoneFresh}
use Rattle.lv_reduce.proofs.reductions.greatest_fresh.Given as goal

-- no node of a level above this one is fresh, and one of this level fits
abbrev pub invariant-loop-level : goal.invariant-loop-level
invariant-loop-level g l = record { none : NoneFresh (fresh_in l.table) l.at l.hi l.level; low : l.level ≤ 6; fits : Fits l.at l.hi l.level }
