-- Proof of `Tree::reserve` for `Prefixes`: room for so many leaves.
use Rattle.std.proofs.Common.{length, map, vec_items, sym, ap, subst, arith}
use Rattle.std.proofs.lemmas.List.{length-map}
use Rattle.lv_tree.specs.Rows.{AreSums}
use Rattle.lv_tree.proofs.Groups.{sums_same}
use Rattle.lv_tree.proofs.prefixes.PrefixesTree.reserve.Goals as goal

pub invariant_of-self : goal.invariant_of-self
invariant_of-self c =
    let inside = c.self.inside in
    let kept = c.self.invariant in
    let leaves = inside.leaves.items in
    let old = map vec_items inside.rows.items in
    let rows = c.in-Some.rows.items in
    let more = c.in-Some-larger_leaves in
    record {
      sums = subst (λ l. AreSums l (map vec_items rows)) (sym more.ensures.same) (sums_same leaves inside.room old (map vec_items rows) kept.rows_room kept.few (λ l m here. c.in-Some.ensures.same l m (omega (arith, here, length-map rows vec_items))) kept.sums);
      rows_room = c.in-Some.ensures.room;
      few = omega (arith, ap length more.ensures.same, kept.few, c.if-leaves-self.false, c.max-room.ensures);
      leaves_room = more.ensures.room;
    }
