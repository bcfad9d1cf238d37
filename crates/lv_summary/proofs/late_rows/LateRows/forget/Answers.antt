-- Proof of `LateRows::forget`: makes every item blank.
use Rattle.std.proofs.Common.{◌∙◌, [], ap, arith, length, replicate, sym}
use Rattle.lv_summary.specs.Inner.{in_pieces, item_at}
use Rattle.lv_summary.proofs.ByNumber.{by_number-blank}
use Rattle.lv_summary.proofs.LateLaws.{item_at-past, length-in_pieces}
use Rattle.lv_summary.proofs.late_rows.LateRows.forget.Goals as goal

pub returns-clause-items : goal.returns-clause-items
returns-clause-items g c =
    let count = c.self.inside.count in
    let blank = c.self.inside.blank in
    let later = c.forget_later.new.later.items in
    ap (λ front. in_pieces front later blank count) c.clear.ensures.items
    ∙ by_number-blank (item_at [] later blank) blank count (λ k. item_at-past [] later blank k (omega arith) ∙ c.forget_later.ensures.blank k blank)
    ∙ ap (λ n. replicate n blank) (sym (length-in_pieces c.self.inside.front.items c.self.inside.later.items blank count))
    ∙ ap (λ of. replicate (length of.items) of.blank) c.self.view_is
