-- Proof of `add_leaf`: adds a leaf behind the last one.
use Rattle.std.proofs.Common.{◌-◌, ◌+◌, sym, ◌∙◌, subst, arith}
use Rattle.lv_tree.specs.Folds.{AreFolds}
use Rattle.lv_tree.proofs.Written.{but_pushed, leaves_pushed, leaves_same}
use Rattle.lv_tree.proofs.leaves.add_leaf.Goals as goal

pub renew-requires-clause-but : goal.renew-requires-clause-but
renew-requires-clause-but g c =
    but_pushed (g.B.Joins.operations c.args.body.now) c.args.cells.now c.args.lo c.args.hi c.args.summary c.requires.tree (omega (arith, c.requires.inside, c.requires.octave)) c.requires.order

pub renew-requires-clause-folds : goal.renew-requires-clause-folds
renew-requires-clause-folds g c =
    subst (AreFolds (g.B.Joins.operations c.args.body.now)) (sym (leaves_pushed (g.B.Joins.operations c.args.body.now) c.args.cells.now c.args.lo c.args.hi c.args.summary c.requires.order c.requires.inside)) c.requires.folds

pub returns-clause-leaves : goal.returns-clause-leaves
returns-clause-leaves g c =
    leaves_same c.renew.new.cells _ c.args.lo (c.args.hi + 1 - c.args.lo) c.renew.ensures.same
    ∙ leaves_pushed (g.B.Joins.operations c.args.body.now) c.args.cells.now c.args.lo c.args.hi c.args.summary c.requires.order c.requires.inside
