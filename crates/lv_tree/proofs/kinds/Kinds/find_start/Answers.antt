-- Proof of `Kinds::find_start`: a start at which a range comes to have what is sought.
use Rattle.std.proofs.Common.{FitsSigned, ap, int_le, of_z, rules, subst, sym, to_z, w64, ◌∙◌}
use Rattle.std.specs.Int.{w128}
use Rattle.std.proofs.lemmas.Int.{to_z-of_z}
use Rattle.lv_bodies.specs.Extremes.{highest_operations, lowest_operations}
use Rattle.lv_bodies.specs.RunTotals.{runs_operations}
use Rattle.lv_bodies.specs.declared.best.RunTotals.{RunTotals}
use Rattle.lv_edits.specs.History.{list_of}
use Rattle.lv_tree.specs.Searches.{FindsStart}
use Rattle.lv_tree.specs.declared.sought.Sought.TheVariants as sought
use Rattle.lv_tree.specs.SoughtLaws.{at_least_told, at_most_told, beginning_told, ending_told, finds_start, run_told}
use Rattle.lv_tree.proofs.kinds.Kinds.find_start.Goals as goal

pub returns-in-AtMost-clause-finds : goal.returns-in-AtMost-clause-finds
returns-in-AtMost-clause-finds c =
    let xs = list_of c.args.cells.now.journal in
    let b = to_z w64 (of_z w64 c.in-AtMost.bound) in
    let fits : FitsSigned w64 c.in-AtMost.bound = search rules in
    let found = finds_start lowest_operations (λ lowest. int_le lowest b) (sought.AtMost b) (at_most_told b) xs c.requires.limits.elements c.args.lo c.args.hi c.requires.order c.requires.inside c.find_start.result c.find_start.ensures.finds in
    subst (λ s. FindsStart s xs c.args.lo c.args.hi c.find_start.result) (ap sought.AtMost (to_z-of_z w64 c.in-AtMost.bound fits) ∙ sym c.in-AtMost.is) found

pub returns-in-AtLeast-clause-finds : goal.returns-in-AtLeast-clause-finds
returns-in-AtLeast-clause-finds c =
    let xs = list_of c.args.cells.now.journal in
    let b = to_z w64 (of_z w64 c.in-AtLeast.bound) in
    let fits : FitsSigned w64 c.in-AtLeast.bound = search rules in
    let found = finds_start highest_operations (λ highest. int_le b highest) (sought.AtLeast b) (at_least_told b) xs c.requires.limits.elements c.args.lo c.args.hi c.requires.order c.requires.inside c.find_start-in-AtLeast.result c.find_start-in-AtLeast.ensures.finds in
    subst (λ s. FindsStart s xs c.args.lo c.args.hi c.find_start-in-AtLeast.result) (ap sought.AtLeast (to_z-of_z w64 c.in-AtLeast.bound fits) ∙ sym c.in-AtLeast.is) found

pub returns-in-Run-clause-finds : goal.returns-in-Run-clause-finds
returns-in-Run-clause-finds c =
    let xs = list_of c.args.cells.now.journal in
    let b = to_z w128 (of_z w128 c.in-Run.bound) in
    let fits : FitsSigned w128 c.in-Run.bound = search rules in
    let found = finds_start runs_operations (λ (runs : RunTotals). int_le b runs.best) (sought.Run b) (run_told b) xs c.requires.limits.elements c.args.lo c.args.hi c.requires.order c.requires.inside c.find_start-in-Run.result c.find_start-in-Run.ensures.finds in
    subst (λ s. FindsStart s xs c.args.lo c.args.hi c.find_start-in-Run.result) (ap sought.Run (to_z-of_z w128 c.in-Run.bound fits) ∙ sym c.in-Run.is) found

pub returns-in-Beginning-clause-finds : goal.returns-in-Beginning-clause-finds
returns-in-Beginning-clause-finds c =
    let xs = list_of c.args.cells.now.journal in
    let b = to_z w128 (of_z w128 c.in-Beginning.bound) in
    let fits : FitsSigned w128 c.in-Beginning.bound = search rules in
    let found = finds_start runs_operations (λ (runs : RunTotals). int_le b runs.prefix) (sought.Beginning b) (beginning_told b) xs c.requires.limits.elements c.args.lo c.args.hi c.requires.order c.requires.inside c.find_start-in-Beginning.result c.find_start-in-Beginning.ensures.finds in
    subst (λ s. FindsStart s xs c.args.lo c.args.hi c.find_start-in-Beginning.result) (ap sought.Beginning (to_z-of_z w128 c.in-Beginning.bound fits) ∙ sym c.in-Beginning.is) found

pub returns-in-Ending-clause-finds : goal.returns-in-Ending-clause-finds
returns-in-Ending-clause-finds c =
    let xs = list_of c.args.cells.now.journal in
    let b = to_z w128 (of_z w128 c.in-Ending.bound) in
    let fits : FitsSigned w128 c.in-Ending.bound = search rules in
    let found = finds_start runs_operations (λ (runs : RunTotals). int_le b runs.suffix) (sought.Ending b) (ending_told b) xs c.requires.limits.elements c.args.lo c.args.hi c.requires.order c.requires.inside c.find_start-in-Ending.result c.find_start-in-Ending.ensures.finds in
    subst (λ s. FindsStart s xs c.args.lo c.args.hi c.find_start-in-Ending.result) (ap sought.Ending (to_z-of_z w128 c.in-Ending.bound fits) ∙ sym c.in-Ending.is) found
