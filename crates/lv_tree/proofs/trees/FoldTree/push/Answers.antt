-- Proof of `FoldTree::push`: adds a leaf behind the last one.
use Rattle.std.proofs.Common.{◌∷◌, [], ◌-◌}
use Rattle.lv_tree.specs.Parts.{run_of}
use Rattle.lv_tree.proofs.Seen.{folds_front, push_folds}
use Rattle.lv_tree.proofs.trees.FoldTree.push.Goals as goal

pub with_room-requires-clause-folds : goal.with_room-requires-clause-folds
with_room-requires-clause-folds g c =
    let inside = c.self.inside in
    let o = g.B.Body.operations inside.body in
    let xs = inside.cells.items in
    folds_front o (run_of xs inside.lo (inside.hi - inside.lo)) (c.args.summary ∷ [])
    (push_folds g.B.Body.operations c.args.self.now inside.body inside.first inside.room inside.lo inside.hi xs c.args.summary c.self.view_is c.requires.folds)
