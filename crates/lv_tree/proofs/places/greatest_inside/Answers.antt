-- Proof of `greatest_inside`.
use Rattle.std.proofs.Common.{FitsSigned, None, Some, ap, of_z, refl, rules, slice_range, subst, sym, to_z, w64, ◌∙◌}
use Rattle.std.proofs.lemmas.Int.{to_z-of_z}
use Rattle.lv_bodies.specs.declared.kinds.Kind.TheVariants as kind
use Rattle.lv_edits.specs.History.{list_of}
use Rattle.lv_tree.proofs.KeptLaws.{LeavesOthers-trans}
use Rattle.lv_tree.specs.declared.places.Placed.{Placed}
use Rattle.lv_tree.specs.Where.{IsFirstGreatest}
use Rattle.lv_tree.specs.PlaceLaws.{empty_range, greatest_is_met, greatest_stands}
use Rattle.lv_tree.specs.SoughtLaws.{greatest_told}
use Rattle.lv_tree.proofs.places.greatest_inside.Goals as goal

pub returns-in_default-clause-place : goal.returns-in_default-clause-place
returns-in_default-clause-place c =
    let xs = list_of c.args.cells.now.journal in
    let is = greatest_told c.args.kinds.now.table (slice_range xs c.args.lo c.args.hi) c.summary.result None (sym c.in_default.is ∙ c.greatest_of.ensures) c.summary.ensures.value in
    empty_range xs c.args.lo c.args.hi c.requires.order c.requires.inside (is.none.0 refl)

pub unreachable-requires : goal.unreachable-requires
unreachable-requires c =
    let xs = list_of c.args.cells.now.journal in
    let value = to_z w64 (of_z w64 c.in-Some.greatest) in
    let fits : FitsSigned w64 c.in-Some.greatest = search rules in
    let told = ap Some (to_z-of_z w64 c.in-Some.greatest fits) ∙ sym c.in-Some.is ∙ c.greatest_of.ensures in
    let is = greatest_told c.args.kinds.now.table (slice_range xs c.args.lo c.args.hi) c.summary.result (Some value) told c.summary.ensures.value in
    greatest_is_met xs c.args.lo c.args.hi c.requires.order c.requires.inside value is c.in-None.ensures.finds

pub returns-clause-place : goal.returns-clause-place
returns-clause-place c =
    let xs = list_of c.args.cells.now.journal in
    let value = to_z w64 (of_z w64 c.in-Some.greatest) in
    let fits : FitsSigned w64 c.in-Some.greatest = search rules in
    let told = ap Some (to_z-of_z w64 c.in-Some.greatest fits) ∙ sym c.in-Some.is ∙ c.greatest_of.ensures in
    let is = greatest_told c.args.kinds.now.table (slice_range xs c.args.lo c.args.hi) c.summary.result (Some value) told c.summary.ensures.value in
    subst (λ (p : Placed). IsFirstGreatest xs c.args.lo c.args.hi p.index p.value) (sym c.before-in-Some-find_end.ensures)
    (greatest_stands xs c.args.lo c.args.hi c.requires.order c.requires.inside value c.in-Some-find_end.end is c.in-Some-find_end.ensures.finds)

pub returns-clause-others : goal.returns-clause-others
returns-clause-others c = LeavesOthers-trans kind.Greatest c.args.kinds.now c.summary.new.kinds c.find_end.new.self c.summary.ensures.others c.find_end.ensures.others
