-- Proof of `CachedTree::set`: a run's join stays if the leaf isn't one of its leaves.
use Rattle.std.proofs.Common.{◌<◌, ◌≤◌, ◌⊎◌, inl, inr}
use Rattle.lv_tree.proofs.CachedLaws.{cached_set}
use Rattle.lv_tree.proofs.cached_tree.CachedTree.set.Goals as goal
use Rattle.lv_tree.proofs.cached_tree.CachedTree.set.Goals.{then-leaf-self-via-then-leaf-self, then-leaf-self-via-else-leaf-self+then-self-leaf}

pub invariant_of-self : goal.invariant_of-self
invariant_of-self g c =
    let t = c.self.inside.tree in
    let run = c.self.inside.run in
    let beside : (c.args.leaf < run.from) ⊎ (run.to ≤ c.args.leaf) = elim c.then-leaf-self.branch [ then-leaf-self-via-then-leaf-self w ↦ inl w.if-leaf-self.true | then-leaf-self-via-else-leaf-self+then-self-leaf w ↦ inr w.if-self-leaf.true ] in
    let low : t.first ≤ c.args.leaf = rw c.self.view_is c.requires.low in
    rw c.set.ensures (cached_set (g.B.Body.operations t.body) t.first t.sums run.from run.to run.sum c.self.invariant c.args.leaf c.args.summary low beside)
