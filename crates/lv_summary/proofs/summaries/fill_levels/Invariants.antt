-- What the loop keeps in `fill_levels`: adds blank rows on each level, so that there are so many in all, if there are fewer.
use Rattle.std.proofs.Common.{◌≡◌, ℕ, ◌<◌, ◌≤◌}
use Rattle.lv_geometry.specs.Levels.{thing_at}
use Rattle.lv_summary.specs.Inner.{filled}
use Rattle.lv_summary.proofs.summaries.fill_levels.Given as goal

-- the levels before are filled, and the others are as they were
abbrev pub invariant-loop-level : goal.invariant-loop-level
invariant-loop-level g l = record {
  filled : (k : ℕ) → 1 ≤ k → k < l.level → (thing_at l.levels k).rows ≡ filled (thing_at l.initial.levels k).rows (thing_at l.rows k) (thing_at l.initial.levels k).blank;
  left : (k : ℕ) → l.level ≤ k → k ≤ 6 → thing_at l.levels k ≡ thing_at l.initial.levels k;
}
