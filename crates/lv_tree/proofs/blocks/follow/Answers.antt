-- Proof of `follow`: the leaves after one edit.
use Rattle.std.proofs.Common.{◌/◌, ◌*◌, ◌^◌, ◌≤◌, length, slice_set, sym, ap, ◌∙◌, subst, arith}
use Rattle.lv_tree.specs.Folds.{AreFolds}
use Rattle.lv_tree.specs.Follows.{leaf_of}
use Rattle.lv_tree.proofs.StepLaws.{after_pop, after_push, after_reserve, after_swap, after_truncate, after_write, before_pop, got, renewed_folds, renewed_twice_folds, size_before}
use Rattle.lv_tree.proofs.blocks.follow.Goals as goal

pub overflow_add-result : goal.overflow_add-result
overflow_add-result g c =
    let l = c.requires.limits in
    let es = c.args.cells.now.journal in
    omega (arith, c.requires.late.by_lists.size_is, size_before es l.legal c.args.at c.requires.late.by_lists.order, c.requires.inside, l.edits, l.allowed.few_edits)

pub overflow_sub-size : goal.overflow_sub-size
overflow_sub-size g c =
    let es = c.args.cells.now.journal in
    omega (arith, c.requires.late.by_lists.size_is, before_pop es c.requires.limits.legal c.args.at (got _ _ c.args.at _ _ c.journal.ensures.value c.requires.inside c.in-Pop.is))

pub overflow_sub-result : goal.overflow_sub-result
overflow_sub-result g c =
    let es = c.args.cells.now.journal in
    omega (arith, c.requires.late.by_lists.size_is, before_pop es c.requires.limits.legal c.args.at (got _ _ c.args.at _ _ c.journal.ensures.value c.requires.inside c.in-Pop.is))

pub renew-requires-clause-folds : goal.renew-requires-clause-folds
renew-requires-clause-folds g c κs within =
    let l = c.requires.limits in
    let o = g.T.B.Body.operations (g.T.Tree.by c.args.tree.now) in
    let sums = g.T.Tree.sums c.args.tree.now in
    let few : 8 * length sums ≤ 2 ^ 61 = omega (arith, c.requires.whole, l.few) in
    renewed_folds o c.args.cells.now.journal l.legal l.elements sums c.args.at c.args.size (c.in-Write.index / 8) c.requires.whole few c.requires.late

pub renew-requires-in-Swap-clause-folds : goal.renew-requires-in-Swap-clause-folds
renew-requires-in-Swap-clause-folds g c κs within =
    let l = c.requires.limits in
    let o = g.T.B.Body.operations (g.T.Tree.by c.args.tree.now) in
    let sums = g.T.Tree.sums c.args.tree.now in
    let few : 8 * length sums ≤ 2 ^ 61 = omega (arith, c.requires.whole, l.few) in
    renewed_folds o c.args.cells.now.journal l.legal l.elements sums c.args.at c.args.size (c.in-Swap.first / 8) c.requires.whole few c.requires.late

pub renew-requires-in-Swap-2-clause-folds : goal.renew-requires-in-Swap-2-clause-folds
renew-requires-in-Swap-2-clause-folds g c κs within =
    let l = c.requires.limits in
    let es = c.args.cells.now.journal in
    let o = g.T.B.Body.operations (g.T.Tree.by c.args.tree.now) in
    let sums = g.T.Tree.sums c.args.tree.now in
    let some = g.T.Tree.sums c.renew-in-Swap.new.tree in
    let b = c.in-Swap.second / 8 in
    let few : 8 * length sums ≤ 2 ^ 61 = omega (arith, c.requires.whole, l.few) in
    subst (λ t. AreFolds (g.T.B.Body.operations t) (slice_set some b (leaf_of (g.T.B.Body.operations t) es b))) (sym c.renew-in-Swap.ensures.by)
    (subst (λ s. AreFolds o (slice_set s b (leaf_of o es b))) (sym c.renew-in-Swap.ensures.sums)
    (renewed_twice_folds o es l.legal l.elements sums c.args.at c.args.size (c.in-Swap.first / 8) b c.requires.whole few c.requires.late))

pub returns-in-Push-clause-late : goal.returns-in-Push-clause-late
returns-in-Push-clause-late g c =
    let l = c.requires.limits in
    let o = g.T.B.Body.operations (g.T.Tree.by c.args.tree.now) in
    after_push o c.args.cells.now.journal l.legal l.elements c.in-Push.field-0 (g.T.Tree.sums c.args.tree.now) c.args.at c.args.size (got _ _ c.args.at _ _ c.journal.ensures.value c.requires.inside c.in-Push.is) c.requires.late

pub returns-in-Pop-clause-late : goal.returns-in-Pop-clause-late
returns-in-Pop-clause-late g c =
    let l = c.requires.limits in
    let o = g.T.B.Body.operations (g.T.Tree.by c.args.tree.now) in
    after_pop o c.args.cells.now.journal l.legal l.elements (g.T.Tree.sums c.args.tree.now) (g.T.Tree.sums c.keep.new.tree) c.args.at c.args.size (got _ _ c.args.at _ _ c.journal.ensures.value c.requires.inside c.in-Pop.is) c.keep.ensures.sums c.requires.late

pub returns-in-Write-clause-late : goal.returns-in-Write-clause-late
returns-in-Write-clause-late g c =
    let l = c.requires.limits in
    let o = g.T.B.Body.operations (g.T.Tree.by c.args.tree.now) in
    after_write o c.args.cells.now.journal l.legal l.elements c.in-Write.index c.in-Write.value (g.T.Tree.sums c.args.tree.now) (g.T.Tree.sums c.renew.new.tree) c.args.at c.args.size (got _ _ c.args.at _ _ c.journal.ensures.value c.requires.inside c.in-Write.is) c.requires.whole c.renew.ensures.sums c.requires.late

pub returns-in-Reserve-clause-late : goal.returns-in-Reserve-clause-late
returns-in-Reserve-clause-late g c =
    let l = c.requires.limits in
    let o = g.T.B.Body.operations (g.T.Tree.by c.args.tree.now) in
    after_reserve o c.args.cells.now.journal l.legal l.elements c.in-Reserve.field-0 (g.T.Tree.sums c.args.tree.now) c.args.at c.args.size (got _ _ c.args.at _ _ c.journal.ensures.value c.requires.inside c.in-Reserve.is) c.requires.late

pub returns-in-Swap-clause-late : goal.returns-in-Swap-clause-late
returns-in-Swap-clause-late g c =
    let l = c.requires.limits in
    let es = c.args.cells.now.journal in
    let o = g.T.B.Body.operations (g.T.Tree.by c.args.tree.now) in
    let some = g.T.Tree.sums c.renew-in-Swap.new.tree in
    let b = c.in-Swap.second / 8 in
    let both =
    c.renew-in-Swap-2.ensures.sums
    ∙ ap (λ t. slice_set some b (leaf_of (g.T.B.Body.operations t) es b)) c.renew-in-Swap.ensures.by
    ∙ ap (λ s. slice_set s b (leaf_of o es b)) c.renew-in-Swap.ensures.sums in
    after_swap o es l.legal l.elements c.in-Swap.first c.in-Swap.second (g.T.Tree.sums c.args.tree.now) (g.T.Tree.sums c.renew-in-Swap-2.new.tree) c.args.at c.args.size (got _ _ c.args.at _ _ c.journal.ensures.value c.requires.inside c.in-Swap.is) c.requires.whole both c.requires.late

pub returns-in-Truncate-clause-late : goal.returns-in-Truncate-clause-late
returns-in-Truncate-clause-late g c =
    let l = c.requires.limits in
    let o = g.T.B.Body.operations (g.T.Tree.by c.args.tree.now) in
    after_truncate o c.args.cells.now.journal l.legal l.elements c.in-Truncate.count (g.T.Tree.sums c.args.tree.now) (g.T.Tree.sums c.keep-in-Truncate.new.tree) c.args.at c.args.size (got _ _ c.args.at _ _ c.journal.ensures.value c.requires.inside c.in-Truncate.is) c.keep-in-Truncate.ensures.sums c.requires.late
