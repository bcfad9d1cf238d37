-- Proof of `LateRows::fill`: adds blanks, so that there are so many items in all, if there are fewer.
use Rattle.std.proofs.Common.{◌∙◌, ap}
use Rattle.lv_summary.specs.Inner.{in_pieces, item_at}
use Rattle.lv_summary.proofs.ByNumber.{by_number-longer}
use Rattle.lv_summary.proofs.late_rows.LateRows.fill.Goals as goal

pub returns-clause-items : goal.returns-clause-items
returns-clause-items g c =
    let front = c.self.inside.front.items in
    let later = c.self.inside.later.items in
    let blank = c.self.inside.blank in
    rw (← c.self.view_is) (ap (λ n. in_pieces front later blank n) c.max-self-inside.ensures ∙ by_number-longer (item_at front later blank) blank c.self.inside.count c.args.items c.self.invariant.3)
