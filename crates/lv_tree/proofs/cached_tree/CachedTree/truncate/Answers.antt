-- Proof of `CachedTree::truncate`: a run's join stays if its leaves stay.
use Rattle.std.proofs.Common.{◌≡◌, ◌≤◌, length, arith}
use Rattle.lv_tree.proofs.CachedLaws.{cached_cut}
use Rattle.lv_tree.proofs.cached_tree.CachedTree.truncate.Goals as goal

pub invariant_of-self : goal.invariant_of-self
invariant_of-self g c =
    let t = c.self.inside.tree in
    let run = c.self.inside.run in
    let fits : c.args.count ≤ length t.sums = rw c.self.view_is c.requires in
    let first : c.first.result ≡ t.first = rw c.truncate.ensures at c.first.ensures in
    rw c.truncate.ensures (cached_cut (g.B.Body.operations t.body) t.first t.sums run.from run.to run.sum c.self.invariant c.args.count fits (omega (arith, first, c.saturating_sub.ensures, c.if-saturating_sub-count.true)))
