-- Proof of `take_in`: adds leaves.
use Rattle.std.proofs.Common.{◌+◌, ◌*◌, ◌^◌, ◌≤◌, ◌++◌, ◌∷◌, [], length, sym, ap, ◌∙◌, subst, arith}
use Rattle.std.proofs.lemmas.List.{length_push}
use Rattle.lv_edits.specs.History.{list_of}
use Rattle.lv_tree.specs.Folds.{AreFolds}
use Rattle.lv_tree.specs.Follows.{FollowsAll, leaf_of}
use Rattle.lv_tree.proofs.LeafLaws.{taken_in, taken_in_folds}
use Rattle.lv_tree.proofs.blocks.take_in.Goals as goal

pub push-requires-clause-folds : goal.push-requires-clause-folds
push-requires-clause-folds g c =
    let l = c.requires.limits in
    let es = c.args.cells.now.journal in
    let o = g.T.B.Body.operations (g.T.Tree.by c.args.tree.now) in
    let sums = g.T.Tree.sums c.loop-block.tree in
    let s = c.fold_block-sum.result in
    let i = c.loop-block.block in
    let inv = c.loop-block.invariant in
    let few : length (list_of es) ≤ 2 ^ 61 = omega (arith, l.few) in
    let inside : 8 * i + 8 ≤ length (list_of es) = omega (arith, c.loop-block-test.true, c.loop-block.auto.block-end, c.requires.whole) in
    let is = c.fold_block-sum.ensures ∙ ap (λ t. leaf_of (g.T.B.Body.operations t) es i) inv.body in
    subst (λ t. AreFolds (g.T.B.Body.operations t) (sums ++ s ∷ [])) (sym inv.by)
    (taken_in_folds o es l.elements few sums sums i s inv.count is inside inv.late)

pub loop-block-preserved : goal.loop-block-preserved
loop-block-preserved g c =
    let l = c.requires.limits in
    let es = c.args.cells.now.journal in
    let o = g.T.B.Body.operations (g.T.Tree.by c.args.tree.now) in
    let sums = g.T.Tree.sums c.loop-block.tree in
    let s = c.fold_block-sum.result in
    let i = c.loop-block.block in
    let inv = c.loop-block.invariant in
    let few : length (list_of es) ≤ 2 ^ 61 = omega (arith, l.few) in
    let inside : 8 * i + 8 ≤ length (list_of es) = omega (arith, c.loop-block-test.true, c.loop-block.auto.block-end, c.requires.whole) in
    let is = c.fold_block-sum.ensures ∙ ap (λ t. leaf_of (g.T.B.Body.operations t) es i) inv.body in
    record {
      late = subst (λ m. FollowsAll o es m) (sym c.push.ensures.sums) (taken_in o es l.elements few sums sums i s inv.count is inside inv.late);
      count = omega (arith, ap length c.push.ensures.sums, length_push sums s, inv.count);
      body = inv.body;
      by = c.push.ensures.by ∙ inv.by;
      room = c.push.ensures.room ∙ inv.room;
    }
