-- Proof of `end_inside`.
use Rattle.std.proofs.Common.{◌<ℤ◌, of_z, pos, subst, to_z}
use Rattle.std.specs.Int.{w128}
use Rattle.std.proofs.lemmas.Int.{to_z-of_z}
use Rattle.lv_edits.specs.History.{list_of}
use Rattle.lv_tree.specs.Searches.{FindsEnd}
use Rattle.lv_tree.specs.declared.sought.Sought.TheVariants.{Beginning}
use Rattle.lv_tree.specs.PlaceLaws.{end_found}
use Rattle.lv_tree.specs.SoughtLaws.{not_most}
use Rattle.lv_tree.proofs.places.end_inside.Goals as goal

pub returns-clause-place : goal.returns-clause-place
returns-clause-place c =
    let xs = list_of c.args.cells.now.journal in
    let is = to_z-of_z w128 c.args.sum c.ranges.sum in
    let finds = subst (λ sum. FindsEnd (Beginning sum) xs c.args.lo c.args.hi c.find_end.result) is c.find_end.ensures.finds in
    let some = subst (λ sum. pos 0 <ℤ sum) is (not_most (to_z w128 (of_z w128 c.args.sum)) (pos 0) c.if-sum-le0.false) in
    end_found xs c.args.lo c.args.hi c.requires.order c.requires.inside c.args.sum some c.find_end.result finds
