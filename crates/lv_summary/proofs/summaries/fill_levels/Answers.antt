-- Proof of `fill_levels`: adds blank rows on each level, so that there are so many in all, if there are fewer.
use Rattle.std.proofs.Common.{◌≡◌, ◌≢◌, ◌+◌, ◌<◌, ap, arith, ◌∙◌}
use Rattle.lv_geometry.proofs.LevelLaws.{each_thing, thing_elsewhere}
use Rattle.lv_geometry.specs.Levels.{thing_at}
use Rattle.lv_summary.specs.Inner.{filled}
use Rattle.lv_summary.proofs.summaries.fill_levels.Goals as goal

pub loop-level-preserved : goal.loop-level-preserved
loop-level-preserved g c =
    record {
      filled = λ k low below. each_thing (λ k level. k < c.loop-level.level + 1 → level.rows ≡ filled (thing_at c.args.levels.now k).rows (thing_at c.args.rows.now k) (thing_at c.args.levels.now k).blank) c.loop-level.levels c.loop-level.level c.fill.new.self c.loop-level.auto.level c.loop-level-test.true
          (λ _.
          c.fill.ensures
          ∙ ap (λ level. filled level.rows c.at.result.now level.blank) (c.at_mut.ensures.thing ∙ c.loop-level.invariant.left c.loop-level.level (omega arith) c.loop-level-test.true)
          ∙ ap (λ n. filled (thing_at c.args.levels.now c.loop-level.level).rows n (thing_at c.args.levels.now c.loop-level.level).blank) c.at.ensures)
          (λ k low high other below. c.loop-level.invariant.filled k low (omega arith))
          k low (omega arith) below;
      left = λ k later most.
          let other : k ≢ c.loop-level.level = omega arith in
          thing_elsewhere c.loop-level.levels c.loop-level.level c.fill.new.self c.loop-level.auto.level c.loop-level-test.true k (omega arith) most other ∙ c.loop-level.invariant.left k (omega arith) most;
    }

pub returns : goal.returns
returns g c = λ level low high. c.loop-level.invariant.filled level low (omega arith)
