-- Proof of `Tree::truncate`: keeps the first leaves.
use Rattle.std.proofs.Common.{◌-◌, ◌≤◌, arith}
use Rattle.lv_tree.proofs.Kept.{kept_cut}
use Rattle.lv_tree.proofs.Seen.{counted}
use Rattle.lv_tree.proofs.trees.FoldTreeTree.truncate.Goals as goal

pub invariant_of-self : goal.invariant_of-self
invariant_of-self g c =
    let inside = c.self.inside in
    let k = counted c.args.self.now inside.body inside.first inside.room inside.lo inside.hi inside.cells.items c.self.view_is c.self.invariant.inside in
    kept_cut (g.B.Body.operations inside.body) inside.lo inside.hi inside.room inside.cells.cap c.args.count inside.cells.items c.self.invariant (let few : c.args.count ≤ inside.hi - inside.lo = omega (arith, c.requires, k.1) in few)
