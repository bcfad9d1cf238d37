-- Proof of `LateRows::reserve`: makes memory for so many items in all, and says whether there is.
use Rattle.std.proofs.Common.{◌∙◌, ap, if◌then◌else◌, nat_lt}
use Rattle.std.specs.List.{slice_index_or}
use Rattle.lv_summary.specs.Inner.{in_pieces, item_at}
use Rattle.lv_summary.proofs.ByNumber.{by_number-same}
use Rattle.lv_summary.proofs.late_rows.LateRows.reserve.Goals as goal

pub returns-then-reserve_front-clause-items : goal.returns-then-reserve_front-clause-items
returns-then-reserve_front-clause-items g c =
    let front = c.self.inside.front.items in
    let later = c.self.inside.later.items in
    let those = c.reserve_later.new.later.items in
    let blank = c.self.inside.blank in
    let count = c.self.inside.count in
    ap (λ front. in_pieces front those blank count) c.reserve_front.ensures.items
    ∙ by_number-same (item_at front later blank) (item_at front those blank) blank count (λ k. ap (λ x. if nat_lt k 512 then slice_index_or front k blank else x) (c.reserve_later.ensures.same k blank))
    ∙ ap (λ of. of.items) c.self.view_is
