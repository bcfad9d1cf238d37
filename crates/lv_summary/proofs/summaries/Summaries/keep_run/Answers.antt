-- Proof of `Summaries::keep_run`: keeps summaries of their nodes' touched numbers for nodes of a level side by side, from one on.
use Rattle.std.proofs.Common.{refl}
use Rattle.lv_geometry.specs.Levels.{with_thing}
use Rattle.lv_summary.specs.Inner.{table_of}
use Rattle.lv_summary.proofs.Changes.{HasRowsChanged-one}
use Rattle.lv_summary.proofs.Runs.{IsSound-run, KeepsRows-thing, KeepsRun-by_rows}
use Rattle.lv_summary.proofs.summaries.Summaries.keep_run.Goals as goal

pub invariant_of-self : goal.invariant_of-self
invariant_of-self g c =
    let size = c.self.inside.size in
    let levels = c.self.inside.levels in
    let level = c.keep_run.new.self in
    IsSound-run (table_of size levels) (table_of size (with_thing levels c.args.level level)) c.args.level c.args.first level.rows c.args.summaries.now c.self.invariant c.requires.low c.requires.high
    (HasRowsChanged-one size levels c.args.level level (λ before. level.rows) c.requires.low c.requires.high refl)
    (KeepsRows-thing size levels c.args.level c.at_mut.result.now level c.args.first c.args.summaries.now c.requires.low c.requires.high c.at_mut.ensures.thing c.keep_run.ensures) refl

pub returns : goal.returns
returns g c =
    let size = c.self.inside.size in
    let levels = c.self.inside.levels in
    let level = c.keep_run.new.self in
    rw (← c.self.view_is) (
    KeepsRun-by_rows (table_of size levels) (table_of size (with_thing levels c.args.level level)) c.args.level c.args.first level.rows c.args.summaries.now c.self.invariant c.requires.low c.requires.high
    (HasRowsChanged-one size levels c.args.level level (λ before. level.rows) c.requires.low c.requires.high refl)
    (KeepsRows-thing size levels c.args.level c.at_mut.result.now level c.args.first c.args.summaries.now c.requires.low c.requires.high c.at_mut.ensures.thing c.keep_run.ensures) refl)
