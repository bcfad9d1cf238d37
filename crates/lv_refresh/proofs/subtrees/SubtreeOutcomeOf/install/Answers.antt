-- Proof of `SubtreeOutcomeOf::install`: keeps each summary of the subtree, with the number of the edit that touched its node last.
use Rattle.lv_refresh.proofs.SubtreeTables.{subtree_kept}
use Rattle.lv_refresh.proofs.subtrees.SubtreeOutcomeOf.install.Goals as goal

pub returns-clause-keeps : goal.returns-clause-keeps
returns-clause-keeps g c =
    let copied = c.self.inside.job in
    let o = g.B.Body.operations copied.body in
    let folds = c.self.invariant c.if-self.false in
    let kept = subtree_kept o copied c.number-number.result c.args.table.now c.adopt_blocks.new.self c.keep_run.new.self c.keep_run-2.new.self c.keep_run-3.new.self c.self.inside.blocks.items c.self.inside.level_2.items c.self.inside.level_3.items c.self.inside.level_4.items c.number-number.ensures folds.0 folds.1 folds.2 folds.3 folds.4
    c.adopt_blocks.ensures (rw c.deref.ensures.value at c.keep_run.ensures) (rw c.deref-2.ensures.value at c.keep_run-2.ensures) (rw c.deref-3.ensures.value at c.keep_run-3.ensures) in
    rw (← c.self.view_is, c.if-self.false) kept
