-- Proof of `first_of_eight`: the first of eight elements, by halves.
use Rattle.std.proofs.Common.{rules, arith, ◌∙◌, w64}
use Rattle.std.proofs.lemmas.Int.{to_z-of_z}
use Rattle.lv_geometry.specs.Elements.{IsElement}
use Rattle.lv_bodies.proofs.HalfFolds.{all_of-halves, first_of-halves}
use Rattle.lv_bodies.proofs.first_halves.first_of_eight.Goals as goal

pub returns-clause-first : goal.returns-clause-first
returns-clause-first g c =
    let left : IsElement c.first_of_four.result = search rules in
    let right : IsElement c.first_of_four-2.result = search rules in
    let whole : IsElement c.first_of.result = search rules in
    first_of-halves g.O.Order.first g.O.Order.last g.O.Order.lawful 4 c.args.xs.now _ _ c.first_of_four.result c.first_of_four-2.result _ _ _
    (omega (arith, c.requires)) c.split_at.ensures.front c.split_at.ensures.back c.first_of_four.ensures.elements c.first_of_four-2.ensures.elements
    c.first_of_four.ensures.first c.first_of_four-2.ensures.first (to_z-of_z w64 _ left) (to_z-of_z w64 _ right) (to_z-of_z w64 _ whole ∙ c.first_of.ensures)

pub returns-clause-elements : goal.returns-clause-elements
returns-clause-elements g c =
    all_of-halves 4 c.args.xs.now _ _ c.split_at.ensures.front c.split_at.ensures.back c.first_of_four.ensures.elements c.first_of_four-2.ensures.elements
