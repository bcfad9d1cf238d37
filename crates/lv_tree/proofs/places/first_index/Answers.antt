-- Proof of `first_index`: the first element within a bound is the last one before the end that is found for it.
use Rattle.std.proofs.Common.{Some, subst}
use Rattle.lv_edits.specs.History.{list_of}
use Rattle.lv_tree.specs.Searches.{FindsEnd}
use Rattle.lv_tree.specs.PlaceLaws.{first_found}
use Rattle.lv_tree.proofs.places.first_index.Goals as goal

pub returns-in-Some-find_end-clause-ok : goal.returns-in-Some-find_end-clause-ok
returns-in-Some-find_end-clause-ok c =
    let xs = list_of c.args.cells.now.journal in
    let end = c.in-Some-find_end.end in
    let finds = subst (λ s. FindsEnd s xs c.args.lo c.args.hi (Some end)) c.sought.ensures c.in-Some-find_end.ensures.finds in
    first_found c.args.bound xs c.args.lo c.args.hi c.in_default.ensures.inside end finds
