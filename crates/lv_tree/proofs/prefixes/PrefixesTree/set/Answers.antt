-- Proof of `Tree::set` for `Prefixes`: another sum in the place of a leaf's.
use Rattle.std.proofs.Common.{◌≡◌, ◌<◌, ◌^◌, length, map, vec_items, ap, arith}
use Rattle.std.proofs.lemmas.List.{get_or_read}
use Rattle.lv_tree.specs.Rows.{SumLeaves}
use Rattle.lv_tree.proofs.Groups.{rows_set}
use Rattle.lv_tree.proofs.prefixes.PrefixesTree.set.Goals as goal

pub invariant_of-self : goal.invariant_of-self
invariant_of-self c =
    let inside = c.self.inside in
    let leaves = inside.leaves.items in
    let size : length leaves ≡ length c.args.self.now.sums = ap (λ (n : SumLeaves). length n.sums) c.self.view_is in
    let here : c.args.leaf < length leaves = omega (arith, c.requires.within, size) in
    let was : c.index.result.now < 2 ^ 64 = omega arith in
    rows_set inside.room inside.leaves.cap c.args.leaf c.args.summary c.index.result.now leaves (map vec_items inside.rows.items) (map vec_items c.add_in.new.rows.items) c.self.invariant here was
    (get_or_read leaves c.args.leaf c.index.result.now here c.index.ensures 0) c.add_in.ensures
