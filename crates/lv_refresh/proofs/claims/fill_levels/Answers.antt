-- Proof of `fill_levels`: adds rows on each level that were not claimed and are not hinted at, so that there are so many in all, if there are fewer.
use Rattle.std.proofs.Common.{◌≢◌, ◌+◌, ◌<◌, arith, ◌∙◌}
use Rattle.lv_geometry.proofs.LevelLaws.{each_thing, thing_elsewhere}
use Rattle.lv_geometry.specs.Levels.{thing_at}
use Rattle.lv_refresh.specs.Inner.{FillsClaims}
use Rattle.lv_refresh.proofs.claims.fill_levels.Goals as goal

pub loop-level-preserved : goal.loop-level-preserved
loop-level-preserved c =
    record {
      filled = λ k low below. each_thing (λ k level. k < c.loop-level.level + 1 → FillsClaims (thing_at c.args.levels.now k).rows level.rows (thing_at c.args.rows.now k)) c.loop-level.levels c.loop-level.level c.fill.new.self c.loop-level.auto.level c.loop-level-test.true
          (λ _.
          rw (← c.at.ensures, ← c.loop-level.invariant.left c.loop-level.level (omega arith) c.loop-level-test.true, ← c.at_mut.ensures.thing) c.fill.ensures)
          (λ k low high other below. c.loop-level.invariant.filled k low (omega arith))
          k low (omega arith) below;
      left = λ k later most.
          let other : k ≢ c.loop-level.level = omega arith in
          thing_elsewhere c.loop-level.levels c.loop-level.level c.fill.new.self c.loop-level.auto.level c.loop-level-test.true k (omega arith) most other ∙ c.loop-level.invariant.left k (omega arith) most;
    }

pub returns : goal.returns
returns c = λ level low high. c.loop-level.invariant.filled level low (omega arith)
