-- Proof of `build`: joins all nodes over leaves anew.
use Rattle.std.proofs.Common.{◌-◌, ◌+◌, refl, sym, subst, arith, take}
use Rattle.lv_tree.specs.Folds.{AreFolds}
use Rattle.lv_tree.proofs.Written.{folds_part, tree_at, tree_none}
use Rattle.lv_tree.proofs.rooms.build.Goals as goal

pub loop-at-init : goal.loop-at-init
loop-at-init g c = record { tree = tree_none (g.B.Joins.operations c.args.body.now) c.args.cells.now c.args.lo; same = refl }

pub renew-requires-clause-but : goal.renew-requires-clause-but
renew-requires-clause-but g c =
    tree_at (g.B.Joins.operations c.args.body.now) c.loop-at.cells c.args.lo c.loop-at.at c.loop-at.invariant.tree (omega (arith, c.loop-at-test.true, c.requires.octave))

pub renew-requires-clause-folds : goal.renew-requires-clause-folds
renew-requires-clause-folds g c =
    let o = g.B.Joins.operations c.args.body.now in
    subst (λ l. AreFolds o (take (c.loop-at.at + 1 - c.args.lo) l)) (sym c.loop-at.invariant.same)
    (folds_part o c.args.cells.now c.args.lo c.args.hi c.requires.folds c.args.lo (c.loop-at.at + 1) (omega arith) (omega (arith, c.loop-at-test.true)))
