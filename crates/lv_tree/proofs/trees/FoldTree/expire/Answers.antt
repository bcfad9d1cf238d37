-- Proof of `FoldTree::expire`: drops the leaves before a number.
use Rattle.std.proofs.Common.{◌-◌, ◌≤◌, arith}
use Rattle.lv_tree.proofs.Kept.{kept_later}
use Rattle.lv_tree.proofs.Seen.{expire_seen}
use Rattle.lv_tree.proofs.trees.FoldTree.expire.Goals as goal

pub returns : goal.returns
returns g c =
    let inside = c.self.inside in
    expire_seen c.args.self.now inside.body inside.first inside.room inside.lo inside.hi c.args.to c.min-count.result (inside.room - c.min-count.result) inside.cells.items c.self.invariant.inside c.self.invariant.order c.min-count.ensures c.self.view_is

pub invariant_of-self : goal.invariant_of-self
invariant_of-self g c =
    let inside = c.self.inside in
    kept_later (g.B.Body.operations inside.body) inside.lo inside.hi inside.room inside.cells.cap c.min-count.result inside.cells.items c.self.invariant (let few : c.min-count.result ≤ inside.hi - inside.lo = omega (arith, c.min-count.ensures) in few)
