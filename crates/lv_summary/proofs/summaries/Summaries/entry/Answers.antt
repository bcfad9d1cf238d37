-- Proof of `Summaries::entry`: the summary of a node, if it is fresh.
use Rattle.std.proofs.Common.{sym, ◌∙◌}
use Rattle.lv_summary.specs.Inner.{table_of}
use Rattle.lv_summary.proofs.NodeRows.{entry_in-rows, entry_in-stale, fresh_in-rows}
use Rattle.lv_summary.proofs.summaries.Summaries.entry.Goals as goal

pub returns-then-is_current : goal.returns-then-is_current
returns-then-is_current g c =
    let row = c.in_ok-level.ensures.some in
    let fresh = fresh_in-rows (table_of c.self.inside.size c.self.inside.levels) c.args.node c.in_ok-level.level.now.rows row ∙ sym c.is_current.ensures ∙ c.if-is_current.true in
    rw (← c.self.view_is) (sym (entry_in-rows (table_of c.self.inside.size c.self.inside.levels) c.args.node c.in_ok-level.level.now.rows row fresh c.kept.result c.kept.ensures))

pub returns-else-is_current : goal.returns-else-is_current
returns-else-is_current g c =
    rw (← c.self.view_is) (sym (entry_in-stale (table_of c.self.inside.size c.self.inside.levels) c.args.node (fresh_in-rows (table_of c.self.inside.size c.self.inside.levels) c.args.node c.in_ok-level.level.now.rows c.in_ok-level.ensures.some ∙ sym c.is_current.ensures ∙ c.if-is_current.false)))
