-- Proof of `Summaries::summary`: the summary of a fresh node.
use Rattle.std.proofs.Common.{◌≡◌, ap, slice_get, sym, ◌∙◌}
use Rattle.lv_summary.specs.Inner.{table_of}
use Rattle.lv_summary.specs.Table.{Rows}
use Rattle.lv_summary.proofs.ChildLaws.{entry_of_row, rows_of_thing}
use Rattle.lv_summary.proofs.NodeRows.{levels_of_whole, rows_at}
use Rattle.lv_summary.proofs.TableLaws.{whole_of_fresh}
use Rattle.lv_summary.proofs.summaries.Summaries.summary.Goals as goal

pub returns : goal.returns
returns g c =
    let t = table_of c.self.inside.size c.self.inside.levels in
    let levels = levels_of_whole c.args.self.now c.args.node (whole_of_fresh c.args.self.now c.args.node c.requires) in
    let rows : c.at.result.now.rows ≡ rows_at t c.args.node.level =
    ap (λ level. level.rows) c.at.ensures ∙ rows_of_thing c.self.inside.size c.self.inside.levels c.args.node.level levels.0 levels.1 in
    rw (← c.self.view_is) (
    entry_of_row t c.args.node c.kept.result c.self.invariant (rw (← c.self.view_is) at c.requires)
    (ap (λ (rows : Rows g.row.S.Denot). slice_get rows.kept c.args.node.number) (sym rows) ∙ c.kept.ensures))
