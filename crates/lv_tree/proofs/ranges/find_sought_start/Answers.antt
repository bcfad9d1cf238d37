-- Proof of `find_sought_start`: the test says whether a range has what is sought.
use Rattle.std.proofs.Common.{subst}
use Rattle.lv_tree.specs.SoughtLaws.{Tells, finds_start}
use Rattle.lv_tree.proofs.ranges.find_sought_start.Goals as goal

pub returns : goal.returns
returns g c =
    let o = g.B.Body.operations c.args.tree.now.body in
    let test = g.T.Test.passes c.args.test.now in
    let seeks = g.T.TestFor.seeks c.args.test.now in
    let told = subst (λ b. Tells (g.B.Body.operations b) test seeks) c.body-body.ensures c.tells.ensures in
    finds_start o test seeks told (g.E.Elements.listed c.args.elements.now) c.bounds.ensures.elements c.args.lo c.args.hi c.requires.order c.requires.inside c.find_start.result c.find_start.ensures
