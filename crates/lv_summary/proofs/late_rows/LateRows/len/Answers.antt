-- Proof of `LateRows::len`: how many items there are.
use Rattle.std.proofs.Common.{◌∙◌, ap, length, sym}
use Rattle.lv_summary.proofs.LateLaws.{length-in_pieces}
use Rattle.lv_summary.proofs.late_rows.LateRows.len.Goals as goal

pub returns : goal.returns
returns g c =
    sym (length-in_pieces c.self.inside.front.items c.self.inside.later.items c.self.inside.blank c.self.inside.count) ∙ ap (λ of. length of.items) c.self.view_is
