-- Proof of `fold_eight` of the bare first: it is what is inside the first that may be missing.
use Rattle.std.proofs.Common.{rules, arith, ◌∙◌, sym, w64}
use Rattle.std.proofs.lemmas.Int.{to_z-of_z}
use Rattle.lv_geometry.specs.Elements.{IsElement}
use Rattle.lv_bodies.specs.BareLaws.{bare-is-extreme, same_inside}
use Rattle.lv_bodies.proofs.bare.BareExtremeLongBody.fold_eight.Goals as goal

pub returns-clause-fold : goal.returns-clause-fold
returns-clause-fold g c =
    let fits : IsElement c.first_of_eight.result = search rules in
    to_z-of_z w64 _ fits
    ∙ same_inside _ _ (c.first_of_eight.ensures.first ∙ sym (bare-is-extreme g.O.Order.first g.O.Order.last g.O.Order.lawful c.args.xs.now (omega (arith, c.requires)) c.first_of_eight.ensures.elements))
