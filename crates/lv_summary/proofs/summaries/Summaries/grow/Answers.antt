-- Proof of `Summaries::grow`: makes rows for so many blocks, and for the nodes above them.
use Rattle.std.proofs.Common.{◌≡◌, refl, ap, arith, ◌∙◌}
use Rattle.std.proofs.lemmas.Result.{err_from_is_err_and}
use Rattle.lv_summary.specs.Inner.{filled, table_of}
use Rattle.lv_summary.proofs.Growth.{AnswersAlike-by_rows, HasRowsFilled, HasRowsFilled-levels, IsSound-filled, blocks_in_enough, blocks_in_more, table_of-same}
use Rattle.lv_summary.proofs.summaries.Summaries.grow.Given.{Over}
use Rattle.lv_summary.proofs.summaries.Summaries.grow.Goals as goal

-- every level is filled up to the rows that its indices need
rows_filled : (g : Over) (c : goal.After-fill_levels g) → HasRowsFilled (table_of c.self.inside.size c.self.inside.levels) (table_of c.self.inside.size c.fill_levels.new.levels) c.args.blocks
rows_filled g c =
    HasRowsFilled-levels c.self.inside.size c.self.inside.levels c.reserve_levels.new.levels c.fill_levels.new.levels c.rows_of-rows.result c.args.blocks
    c.in_ok-reserve_levels.ensures.rows c.fill_levels.ensures c.rows_of-rows.ensures.covers

-- the first level is filled up to a row for each block
first_filled : (g : Over) (c : goal.After-fill_levels g) → c.fill_levels.new.levels.level_1.rows ≡ filled c.self.inside.levels.level_1.rows c.args.blocks c.reserve_levels.new.levels.level_1.blank
first_filled g c =
    let blank = c.reserve_levels.new.levels.level_1.blank in
    c.fill_levels.ensures 1 (omega arith) (omega arith)
    ∙ ap (λ rows. filled rows c.rows_of-rows.result.level_1 blank) (c.in_ok-reserve_levels.ensures.rows 1 (omega arith) (omega arith))
    ∙ ap (λ n. filled c.self.inside.levels.level_1.rows n blank) c.rows_of-rows.ensures.blocks

pub invariant_of-self : goal.invariant_of-self
invariant_of-self g c = rw (table_of-same c.self.inside.size c.self.inside.levels c.reserve_levels.new.levels c.in_err-reserve_levels.ensures.rows) c.self.invariant

pub returns-in_err-reserve_levels : goal.returns-in_err-reserve_levels
returns-in_err-reserve_levels g c =
    let same = table_of-same c.self.inside.size c.self.inside.levels c.reserve_levels.new.levels c.in_err-reserve_levels.ensures.rows in
    let told = err_from_is_err_and c.from_residual.result c.from_residual.ensures.1 in
    rw (← c.self.view_is, same, told.1, told.2) record { alike = record { size = refl; touched = λ n. refl; kept = λ n. refl }; more = omega arith; ok = tt; err = c.in_err-reserve_levels.ensures.err; unchanged = refl }

pub invariant_of-self-2 : goal.invariant_of-self-2
invariant_of-self-2 g c =
    IsSound-filled c.self.invariant refl c.args.blocks c.reserve_levels.new.levels.level_1.blank c.requires (first_filled g c) (rows_filled g c)

pub returns-clause-alike : goal.returns-clause-alike
returns-clause-alike g c = rw (← c.self.view_is) (AnswersAlike-by_rows c.self.invariant refl c.args.blocks (rows_filled g c))

pub returns-clause-more : goal.returns-clause-more
returns-clause-more g c = rw (← c.self.view_is) (blocks_in_more _ _ c.args.blocks c.reserve_levels.new.levels.level_1.blank (first_filled g c))

pub returns-clause-ok : goal.returns-clause-ok
returns-clause-ok g c =
    let old = table_of c.self.inside.size c.self.inside.levels in
    blocks_in_enough old _ c.args.blocks c.reserve_levels.new.levels.level_1.blank (first_filled g c)
