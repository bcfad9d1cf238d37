-- Proof of `elements_at`: so many numbers from a place on, as elements.
use Rattle.std.proofs.Common.{◌≡◌, ◌^◌, ◌<◌, true, ap, ◌∙◌, is_ok, not, w64, to_z, of_z}
use Rattle.std.specs.Int.{cast_signed}
use Rattle.std.proofs.lemmas.Int.{of_z-to_z}
use Rattle.lv_saved.proofs.ReadLaws.{one_element}
use Rattle.lv_saved.proofs.reading.elements_at.Goals as goal

pub loop-k-preserved : goal.loop-k-preserved
loop-k-preserved c =
    let pushed : is_ok c.push.result ≡ true = c.is_err.ensures.negation ∙ ap not c.if-is_err.false in
    let items = rw pushed at c.push.ensures.items in
    let x = to_z w64 (of_z w64 c.cast_signed.result) in
    let short : c.number_at-number.result < 2 ^ 64 = c.number_at-number.type_inv in
    let back = ap (λ z. to_z w64 (of_z w64 z)) c.cast_signed.ensures ∙ ap (cast_signed w64) (of_z-to_z w64 c.number_at-number.result short) in
    one_element c.args.bytes.now c.args.from c.loop-k.k c.loop-k.elements.items c.push.new.self.items x c.loop-k.invariant items (back ∙ ap (cast_signed w64) c.number_at-number.ensures)
