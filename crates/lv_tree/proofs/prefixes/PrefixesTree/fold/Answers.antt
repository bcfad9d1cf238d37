-- Proof of `Tree::fold` for `Prefixes`: the difference of two prefixes.
use Rattle.std.proofs.Common.{◌≡◌, ◌≤◌, ◌-◌, length, sym, ap, ◌∙◌, subst, arith}
use Rattle.lv_bodies.specs.LongLaws.{sum_long}
use Rattle.lv_bodies.specs.Sums.{IsSum, sum_operations}
use Rattle.lv_tree.specs.Folds.{AreFoldsOf}
use Rattle.lv_tree.specs.Rows.{SumLeaves}
use Rattle.lv_tree.proofs.Between.{difference, part_is_sum}
use Rattle.lv_tree.proofs.InOrder.{run_joined}
use Rattle.lv_tree.proofs.prefixes.PrefixesTree.fold.Goals as goal

pub returns : goal.returns
returns c lists h =
    let inside = c.self.inside in
    let leaves = inside.leaves.items in
    let from = c.args.from in
    let to = c.args.to in
    let is : leaves ≡ c.args.self.now.sums = ap (λ (n : SumLeaves). n.sums) c.self.view_is in
    let last : to ≤ length leaves = omega (arith, c.requires.last, ap length is) in
    let folds = subst (AreFoldsOf sum_operations lists) (sym is) h in
    difference leaves from to c.sum_before.result c.sum_before-2.result c.requires.order (c.sum_before.ensures leaves last c.self.invariant.sums) (c.sum_before-2.ensures leaves (omega (arith, last, c.requires.order)) c.self.invariant.sums)
    ∙ sym (part_is_sum leaves from to)
    ∙ run_joined sum_operations IsSum sum_long leaves lists folds from (to - from)
