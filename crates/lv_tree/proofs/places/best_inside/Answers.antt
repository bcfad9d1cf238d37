-- Proof of `best_inside`.
use Rattle.std.proofs.Common.{FitsSigned, None, Some, of_z, refl, rules, slice_range, subst, sym, to_z, ◌∙◌}
use Rattle.std.specs.Int.{w128}
use Rattle.std.proofs.lemmas.Int.{to_z-of_z}
use Rattle.lv_bodies.specs.Plain.{IsPlainBest}
use Rattle.lv_bodies.specs.declared.kinds.Kind.TheVariants as kind
use Rattle.lv_edits.specs.History.{list_of}
use Rattle.lv_tree.proofs.KeptLaws.{LeavesOthers-trans}
use Rattle.lv_tree.specs.PlaceLaws.{best_is_met, best_stands, empty_range}
use Rattle.lv_tree.specs.SoughtLaws.{best_told}
use Rattle.lv_tree.proofs.places.best_inside.Goals as goal

pub returns-in_default-clause-place : goal.returns-in_default-clause-place
returns-in_default-clause-place c =
    let xs = list_of c.args.cells.now.journal in
    let is = best_told c.args.kinds.now.table (slice_range xs c.args.lo c.args.hi) c.summary.result None (sym c.in_default.is ∙ c.best_of.ensures) c.summary.ensures.value in
    empty_range xs c.args.lo c.args.hi c.requires.order c.requires.inside (is.none.0 refl)

pub unreachable-requires-in-None : goal.unreachable-requires-in-None
unreachable-requires-in-None c =
    let xs = list_of c.args.cells.now.journal in
    let ys = slice_range xs c.args.lo c.args.hi in
    let sum = to_z w128 (of_z w128 c.in-Some.totals.best) in
    let fits : FitsSigned w128 c.in-Some.totals.best = search rules in
    let told = best_told c.args.kinds.now.table ys c.summary.result (Some c.in-Some.totals) (sym c.in-Some.is ∙ c.best_of.ensures) c.summary.ensures.value in
    let is = subst (λ best. IsPlainBest ys (Some best)) (sym (to_z-of_z w128 c.in-Some.totals.best fits)) told in
    best_is_met xs c.args.lo c.args.hi c.requires.order c.requires.inside sum is c.in-None.ensures.finds

pub returns-clause-place : goal.returns-clause-place
returns-clause-place c =
    let xs = list_of c.args.cells.now.journal in
    let ys = slice_range xs c.args.lo c.args.hi in
    let sum = to_z w128 (of_z w128 c.in-Some.totals.best) in
    let fits : FitsSigned w128 c.in-Some.totals.best = search rules in
    let told = best_told c.args.kinds.now.table ys c.summary.result (Some c.in-Some.totals) (sym c.in-Some.is ∙ c.best_of.ensures) c.summary.ensures.value in
    let is = subst (λ best. IsPlainBest ys (Some best)) (sym (to_z-of_z w128 c.in-Some.totals.best fits)) told in
    best_stands xs c.args.lo c.args.hi c.requires.inside sum c.in-Some-find_end.to c.in-Some-find_start.from c.in-Some-find_end.ensures.finds c.in-Some-find_start.ensures.finds is

pub returns-clause-others : goal.returns-clause-others
returns-clause-others c = LeavesOthers-trans kind.Best c.args.kinds.now c.find_end.new.self c.find_start.new.self (LeavesOthers-trans kind.Best c.args.kinds.now c.summary.new.kinds c.find_end.new.self c.summary.ensures.others c.find_end.ensures.others) c.find_start.ensures.others
