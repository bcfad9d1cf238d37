-- Proof of `Summaries::adopt_blocks`: the same of 512 blocks, from a multiple of 512 on, by taking the memory of their summaries: none is copied.
use Rattle.std.proofs.Common.{arith, refl}
use Rattle.lv_geometry.specs.Levels.{with_thing}
use Rattle.lv_summary.specs.Inner.{table_of}
use Rattle.lv_summary.proofs.Changes.{HasRowsChanged-one}
use Rattle.lv_summary.proofs.Runs.{IsSound-run, KeepsRun-by_rows}
use Rattle.lv_summary.proofs.summaries.Summaries.adopt_blocks.Goals as goal

pub invariant_of-self : goal.invariant_of-self
invariant_of-self g c =
    let size = c.self.inside.size in
    let levels = c.self.inside.levels in
    let level = c.adopt.new.self in
    IsSound-run (table_of size levels) (table_of size (with_thing levels 1 level)) 1 c.args.first level.rows c.args.summaries.now.items c.self.invariant (omega arith) (omega arith)
    (HasRowsChanged-one size levels 1 level (λ before. level.rows) (omega arith) (omega arith) refl) c.adopt.ensures refl

pub returns : goal.returns
returns g c =
    let size = c.self.inside.size in
    let levels = c.self.inside.levels in
    let level = c.adopt.new.self in
    rw (← c.self.view_is) (
    KeepsRun-by_rows (table_of size levels) (table_of size (with_thing levels 1 level)) 1 c.args.first level.rows c.args.summaries.now.items c.self.invariant (omega arith) (omega arith)
    (HasRowsChanged-one size levels 1 level (λ before. level.rows) (omega arith) (omega arith) refl) c.adopt.ensures refl)
