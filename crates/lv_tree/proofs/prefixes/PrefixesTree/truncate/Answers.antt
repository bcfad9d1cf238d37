-- Proof of `Tree::truncate` for `Prefixes`: keeps the first leaves.
use Rattle.std.proofs.Common.{◌≡◌, length, map, vec_items, sym, ap, subst, arith}
use Rattle.lv_tree.specs.Rows.{AreKept, SumLeaves}
use Rattle.lv_tree.proofs.Groups.{rows_cut}
use Rattle.lv_tree.proofs.prefixes.PrefixesTree.truncate.Goals as goal

pub invariant_of-self : goal.invariant_of-self
invariant_of-self c =
    let inside = c.self.inside in
    let rows = map vec_items inside.rows.items in
    let size : length inside.leaves.items ≡ length c.args.self.now.sums = ap (λ (n : SumLeaves). length n.sums) c.self.view_is in
    subst (λ k. AreKept inside.room k c.truncate.new.self.items rows) (sym c.truncate.ensures.capacity)
    (subst (λ l. AreKept inside.room inside.leaves.cap l rows) (sym c.truncate.ensures.items)
    (rows_cut inside.room inside.leaves.cap c.args.count inside.leaves.items rows c.self.invariant (omega (arith, c.requires, size))))
