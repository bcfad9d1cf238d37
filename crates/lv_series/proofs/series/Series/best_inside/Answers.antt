-- Proof of `Series::best_inside`.
use Rattle.std.proofs.Common.{FitsSigned, None, Some, of_z, refl, rules, subst, sym, to_z, ◌∙◌}
use Rattle.std.specs.Int.{w128}
use Rattle.std.proofs.lemmas.Int.{to_z-of_z}
use Rattle.lv_bodies.specs.Plain.{IsPlainBest}
use Rattle.lv_series.specs.Series.{slice_of}
use Rattle.lv_series.proofs.PlaceLaws.{best_in_range, none_in, some_best}
use Rattle.lv_tree.specs.SoughtLaws.{best_told}
use Rattle.lv_series.proofs.series.Series.best_inside.Goals as goal
use Rattle.lv_series.proofs.series.Series.best_inside.Goals.{In-Some}

pub returns-in_default : goal.returns-in_default
returns-in_default c =
    let h = c.args.self.now.held in
    let is = best_told c.args.self.now.table (slice_of h c.args.lo c.args.hi) c.summary.result None (sym c.in_default.is ∙ c.best_of.ensures) c.summary.ensures in
    none_in h c.args.lo c.args.hi c.requires.granted (is.none.0 refl)

best : (c : In-Some) → IsPlainBest (slice_of c.args.self.now.held c.args.lo c.args.hi) (Some (to_z w128 (of_z w128 c.in-Some.totals.best)))
best c =
    let xs = slice_of c.args.self.now.held c.args.lo c.args.hi in
    let fits : FitsSigned w128 c.in-Some.totals.best = search rules in
    let told = best_told c.args.self.now.table xs c.summary.result (Some c.in-Some.totals) (sym c.in-Some.is ∙ c.best_of.ensures) c.summary.ensures in
    subst (λ sum. IsPlainBest xs (Some sum)) (sym (to_z-of_z w128 c.in-Some.totals.best fits)) told

pub unreachable-requires-in-None : goal.unreachable-requires-in-None
unreachable-requires-in-None c = some_best c.args.self.now.held c.args.lo c.args.hi c.requires.granted _ (best (goal.at.unreachable-requires-in-None c).In-Some) c.in-None.ensures

pub returns : goal.returns
returns c = best_in_range c.args.self.now.held c.args.lo c.args.hi c.requires.granted _ (best (goal.at.returns c).In-Some) c.in-Some-find.to c.in-Some-find.ensures c.in-Some-find-2.from c.in-Some-find-2.ensures
