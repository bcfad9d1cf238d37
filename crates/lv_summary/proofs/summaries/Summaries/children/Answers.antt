-- Proof of `Summaries::children`: the summaries of the eight children of a whole node, in order, as a slice; none if one of them was never
-- written.
use Rattle.std.proofs.Common.{◌≡◌, ◌+◌, ◌-◌, ◌*◌, ap, arith, slice_get, ◌∙◌}
use Rattle.lv_summary.specs.Inner.{table_of}
use Rattle.lv_summary.specs.Table.{Rows}
use Rattle.lv_summary.proofs.ChildLaws.{child_entry, rows_of_thing}
use Rattle.lv_summary.proofs.NodeRows.{levels_of_whole, rows_at}
use Rattle.lv_summary.proofs.summaries.Summaries.children.Goals as goal

pub returns-in-Some-clause-entries : goal.returns-in-Some-clause-entries
returns-in-Some-clause-entries g c =
    let t = table_of c.self.inside.size c.self.inside.levels in
    let levels = levels_of_whole c.args.self.now c.args.node c.requires.whole in
    let rows : c.at.result.now.rows ≡ rows_at t (c.args.node.level - 1) =
    ap (λ level. level.rows) c.at.ensures ∙ rows_of_thing c.self.inside.size c.self.inside.levels (c.args.node.level - 1) (omega (arith, c.requires.above)) (omega (arith, levels.1)) in
    rw (← c.self.view_is) (
    λ k within fresh. c.in-Some.ensures.1 k within
    ∙ ap (λ (rows : Rows g.row.S.Denot). slice_get rows.kept (8 * c.args.node.number + k)) rows
    ∙ child_entry t c.args.node (rw (← c.self.view_is) at c.requires.whole) c.requires.above c.self.invariant k within fresh)
