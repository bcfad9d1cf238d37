-- Proof of `LateRows::get`: the item at a number.
use Rattle.std.proofs.Common.{◌<◌, ◌∙◌, Some, ap, arith, length, sym}
use Rattle.lv_summary.specs.Inner.{item_at}
use Rattle.lv_summary.proofs.LateLaws.{length-in_pieces, read_pieces}
use Rattle.lv_summary.proofs.late_rows.LateRows.get.Goals as goal

pub returns : goal.returns
returns g c =
    let front = c.self.inside.front.items in
    let later = c.self.inside.later.items in
    let count = c.self.inside.count in
    let blank = c.self.inside.blank in
    let inside : c.args.number < count = omega (arith, length-in_pieces front later blank count, ap (λ of. length of.items) c.self.view_is) in
    rw (← c.self.view_is) (
    read_pieces front later blank count c.args.number inside
    ∙ ap Some (
    ap (λ xs. item_at xs later blank c.args.number) (sym c.deref.ensures.value)
    ∙ ap (λ ys. item_at c.deref.result.now ys blank c.args.number) (sym c.deref-2.ensures.value)
    ∙ sym c.item_of.ensures))
