-- Equal parts make equal cells.
use Rattle.std.specs.Prelude.{◌≡◌, ℕ, ℤ, List}
use Rattle.std.proofs.Common.{ap, ◌∙◌}
use Rattle.livevec_c.specs.declared.values.PlainValues.{PlainValues}
use Rattle.livevec_c.specs.Cells.{map_cell, values_cell}
use Rattle.livevec_c.specs.Plainly.{AreValues}

pub maps_alike : (a b c d : ℕ) → a ≡ c → b ≡ d → map_cell a b ≡ map_cell c d
maps_alike a b c d e f = ap (λ x. map_cell x b) e ∙ ap (map_cell c) f

-- values that are the plain ones of a list are its cell
pub values_alike : (table : List (List ℕ)) (xs : List ℤ) (v : PlainValues) → AreValues table xs v → v ≡ values_cell table xs
values_alike table xs v is =
    let w = values_cell table xs in
    ap (λ x. record v { sum = x }) is.sum
    ∙ ap (λ x. record v { sum = w.sum; least = x }) is.least
    ∙ ap (λ x. record v { sum = w.sum; least = w.least; greatest = x }) is.greatest
    ∙ ap (λ x. record v { sum = w.sum; least = w.least; greatest = w.greatest; best_low = x }) is.best_low
    ∙ ap (λ x. record v { sum = w.sum; least = w.least; greatest = w.greatest; best_low = w.best_low; best_high = x }) is.best_high
    ∙ ap (λ x. record w { affine_a = x; affine_b = v.affine_b; automaton = v.automaton; any = v.any }) is.affine_a
    ∙ ap (λ x. record w { affine_b = x; automaton = v.automaton; any = v.any }) is.affine_b
    ∙ ap (λ x. record w { automaton = x; any = v.any }) is.automaton
    ∙ ap (λ x. record w { any = x }) is.any
