-- Proof of `last_index`: the last element within a bound is at the start that is found for it.
use Rattle.std.proofs.Common.{subst}
use Rattle.lv_edits.specs.History.{list_of}
use Rattle.lv_tree.specs.Searches.{FindsStart}
use Rattle.lv_tree.specs.PlaceLaws.{last_found}
use Rattle.lv_tree.proofs.places.last_index.Goals as goal

pub returns-clause-ok : goal.returns-clause-ok
returns-clause-ok c =
    let xs = list_of c.args.cells.now.journal in
    let finds = subst (λ s. FindsStart s xs c.args.lo c.args.hi c.find_start.result) c.sought.ensures c.find_start.ensures.finds in
    last_found c.args.bound xs c.args.lo c.args.hi c.in_default.ensures.inside c.find_start.result finds
