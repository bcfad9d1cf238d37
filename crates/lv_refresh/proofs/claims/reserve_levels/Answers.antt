-- Proof of `reserve_levels`: makes memory for so many rows on each level.
use Rattle.std.proofs.Common.{◌≡◌, ◌+◌, ◌<◌, ◌≤◌, ap, arith, ◌∙◌}
use Rattle.lv_geometry.proofs.LevelLaws.{each_thing}
use Rattle.lv_geometry.specs.Levels.{thing_at}
use Rattle.lv_refresh.proofs.claims.reserve_levels.Goals as goal

pub loop-level-preserved : goal.loop-level-preserved
loop-level-preserved c =
    record {
      rows = each_thing (λ k level. level.rows ≡ (thing_at c.args.levels.now k).rows) c.loop-level.levels c.loop-level.level c.reserve.new.self c.loop-level.auto.level c.loop-level-test.true
          (c.in_ok-reserve.ensures.rows ∙ ap (λ level. level.rows) c.at_mut.ensures.thing ∙ c.loop-level.invariant.rows c.loop-level.level c.loop-level.auto.level c.loop-level-test.true)
          (λ k low high other. c.loop-level.invariant.rows k low high);
      room = λ k low below. each_thing (λ k level. k < c.loop-level.level + 1 → thing_at c.args.rows.now k ≤ level.capacity) c.loop-level.levels c.loop-level.level c.reserve.new.self c.loop-level.auto.level c.loop-level-test.true
          (λ _. rw (← c.at.ensures) c.in_ok-reserve.ensures.ok)
          (λ k low high other below. c.loop-level.invariant.room k low (omega arith))
          k low (omega arith) below;
    }

pub returns-in_err-reserve-clause-rows : goal.returns-in_err-reserve-clause-rows
returns-in_err-reserve-clause-rows c =
    each_thing (λ k level. level.rows ≡ (thing_at c.args.levels.now k).rows) c.loop-level.levels c.loop-level.level c.reserve.new.self c.loop-level.auto.level c.loop-level-test.true
    (c.in_err-reserve.ensures.rows ∙ ap (λ level. level.rows) c.at_mut.ensures.thing ∙ c.loop-level.invariant.rows c.loop-level.level c.loop-level.auto.level c.loop-level-test.true)
    (λ k low high other. c.loop-level.invariant.rows k low high)

pub returns : goal.returns
returns c =
    record {
      rows = c.loop-level.invariant.rows;
      ok = λ level low high. c.loop-level.invariant.room level low (omega arith);
      err = tt;
    }
