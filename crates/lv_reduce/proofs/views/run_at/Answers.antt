-- Proof of `run_at`: elements from index `at` on, before `hi`, one at least.
use Rattle.std.proofs.Common.{◌<◌, ◌∷◌, [], FitsSigned, length, rules, ap, ◌∙◌, arith}
use Rattle.std.specs.Int.{w64}
use Rattle.std.proofs.lemmas.Int.{to_z-of_z}
use Rattle.lv_edits.specs.History.{list_of}
use Rattle.lv_reduce.proofs.PieceLaws.{slice_range-one}
use Rattle.lv_reduce.proofs.views.run_at.Goals as goal

pub returns-then-is_empty-clause-elements : goal.returns-then-is_empty-clause-elements
returns-then-is_empty-clause-elements c =
    let xs = list_of c.args.history.now.journal in
    let x = c.read.result in
    let small : c.args.at < length xs = omega (arith, c.requires.order, c.requires.inside) in
    let fits : FitsSigned w64 x = search rules in
    ap (λ y. y ∷ []) (to_z-of_z w64 x fits) ∙ slice_range-one xs c.args.at x small c.read.ensures.value
