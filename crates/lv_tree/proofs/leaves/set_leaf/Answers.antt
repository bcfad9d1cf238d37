-- Proof of `set_leaf`: puts another summary in the place of the leaf at place `at`.
use Rattle.std.proofs.Common.{◌-◌, sym, ◌∙◌, subst, arith}
use Rattle.lv_tree.specs.Folds.{AreFolds}
use Rattle.lv_tree.proofs.Written.{but_written, leaves_same, leaves_written, was_written}
use Rattle.lv_tree.proofs.leaves.set_leaf.Goals as goal

pub renew-requires-clause-but : goal.renew-requires-clause-but
renew-requires-clause-but g c =
    but_written (g.B.Joins.operations c.args.body.now) c.args.cells.now c.args.lo c.args.at c.args.summary c.args.hi c.requires.tree (omega (arith, c.requires.inside, c.requires.octave)) c.requires.low

pub renew-requires-clause-folds : goal.renew-requires-clause-folds
renew-requires-clause-folds g c =
    subst (AreFolds (g.B.Joins.operations c.args.body.now)) (sym (leaves_written (g.B.Joins.operations c.args.body.now) c.args.cells.now c.args.lo c.args.at c.args.summary c.args.hi c.requires.low c.requires.high)) c.requires.folds

pub renew-requires-clause-was : goal.renew-requires-clause-was
renew-requires-clause-was g c _ =
    was_written (g.B.Joins.operations c.args.body.now) c.args.cells.now c.args.lo c.args.hi c.args.at c.args.summary c.requires.tree c.requires.were

pub returns-clause-leaves : goal.returns-clause-leaves
returns-clause-leaves g c =
    leaves_same c.renew.new.cells _ c.args.lo (c.args.hi - c.args.lo) c.renew.ensures.same
    ∙ leaves_written (g.B.Joins.operations c.args.body.now) c.args.cells.now c.args.lo c.args.at c.args.summary c.args.hi c.requires.low c.requires.high
