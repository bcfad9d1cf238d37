-- What the loop keeps in `count_reads`: how many cells and summaries are read for a range that is not refused.
use Rattle.std.proofs.Common.{◌-◌}
use Rattle.lv_summary.specs.Table.{fresh_in}
use Rattle.lv_reduce.proofs.WalkLaws.{IsWalk}
use Rattle.lv_reduce.proofs.costs.count_reads.Given as goal

-- the walk has come so far
abbrev pub invariant-loop-at : goal.invariant-loop-at
invariant-loop-at g l = IsWalk (fresh_in l.table) l.lo l.hi l.at l.cells l.summaries

-- what is left of the range
abbrev pub decreases-loop-at : goal.decreases-loop-at
decreases-loop-at g l = l.hi - l.at
