-- What the loop keeps in `reserve_levels`: makes memory for so many rows on each level.
use Rattle.std.proofs.Common.{ℕ, ◌<◌, ◌≤◌}
use Rattle.lv_geometry.specs.Levels.{thing_at}
use Rattle.lv_summary.specs.Inner.{HaveSameRows}
use Rattle.lv_summary.proofs.summaries.reserve_levels.Given as goal

-- no row has changed, and the levels before have room
abbrev pub invariant-loop-level : goal.invariant-loop-level
invariant-loop-level g l = record {
  rows : HaveSameRows l.initial.levels l.levels;
  room : (k : ℕ) → 1 ≤ k → k < l.level → thing_at l.rows k ≤ (thing_at l.levels k).capacity;
}
