-- Proof of `Summaries::children_fresh`: whether the eight children of a whole node are fresh.
use Rattle.std.proofs.Common.{◌≡◌, ◌+◌, ◌-◌, ◌*◌, ap, arith, get_or, nat_eq, ◌∙◌}
use Rattle.std.specs.List.{list_all, range_with_len}
use Rattle.lv_summary.specs.Inner.{table_of}
use Rattle.lv_summary.specs.Table.{Rows}
use Rattle.lv_summary.proofs.ChildLaws.{children_fresh-rows, rows_of_thing}
use Rattle.lv_summary.proofs.NodeRows.{levels_of_whole, rows_at}
use Rattle.lv_summary.proofs.summaries.Summaries.children_fresh.Goals as goal

pub returns : goal.returns
returns g c =
    let t = table_of c.self.inside.size c.self.inside.levels in
    let levels = levels_of_whole c.args.self.now c.args.node c.requires.whole in
    let rows : c.at.result.now.rows ≡ rows_at t (c.args.node.level - 1) =
    ap (λ level. level.rows) c.at.ensures ∙ rows_of_thing c.self.inside.size c.self.inside.levels (c.args.node.level - 1) (omega (arith, c.requires.above)) (omega (arith, levels.1)) in
    rw (← c.self.view_is) (
    c.are_current.ensures
    ∙ ap (λ (rows : Rows g.row.S.Denot). list_all (λ k. nat_eq (get_or rows.stamps (8 * c.args.node.number + k) 0) (get_or rows.touched (8 * c.args.node.number + k) 0 + 1)) (range_with_len 0 8)) rows
    ∙ children_fresh-rows t c.args.node (rw (← c.self.view_is) at c.requires.whole) c.requires.above c.self.invariant)
