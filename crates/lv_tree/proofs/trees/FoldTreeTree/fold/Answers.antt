-- Proof of `Tree::fold`: the summary of the elements of the leaves of a range.
use Rattle.std.proofs.Common.{◌≡◌, ◌+◌, ◌-◌, sym, ap, ◌∙◌, subst, arith}
use Rattle.lv_tree.specs.Folds.{AreFolds}
use Rattle.lv_tree.specs.Parts.{part_of, run_of}
use Rattle.lv_tree.proofs.Seen.{counted, folded_now, seen_folds}
use Rattle.lv_tree.proofs.Written.{folds_part}
use Rattle.lv_tree.proofs.trees.FoldTreeTree.fold.Goals as goal

pub fold_between-requires-clause-folds : goal.fold_between-requires-clause-folds
fold_between-requires-clause-folds g c =
    let inside = c.self.inside in
    let o = g.B.Body.operations inside.body in
    let xs = inside.cells.items in
    let now = c.args.self.now in
    let k = counted now inside.body inside.first inside.room inside.lo inside.hi xs c.self.view_is c.self.invariant.inside in
    let a = c.args.from + inside.lo in
    let b = c.args.to + inside.lo in
    let folds = seen_folds g.B.Body.operations now inside.body inside.first inside.room inside.lo inside.hi xs c.self.view_is c.requires.folds in
    subst (λ l. AreFolds o (run_of l a (b - a))) (sym c.as_slice.ensures.value)
    (folds_part o xs inside.lo inside.hi folds a b (omega arith) (omega (arith, k.1, c.requires.last, c.self.invariant.order)))

pub returns : goal.returns
returns g c lists h =
    let inside = c.self.inside in
    let o = g.B.Body.operations inside.body in
    let xs = inside.cells.items in
    let now = c.args.self.now in
    let k = counted now inside.body inside.first inside.room inside.lo inside.hi xs c.self.view_is c.self.invariant.inside in
    let start : c.args.from + inside.lo ≡ inside.lo + c.args.from = omega arith in
    let end : c.args.to + inside.lo ≡ inside.lo + c.args.to = omega arith in
    c.fold_between.ensures
    ∙ ap (λ l. part_of o l (c.args.from + inside.lo) (c.args.to + inside.lo)) c.as_slice.ensures.value
    ∙ ap (λ i. part_of o xs i (c.args.to + inside.lo)) start
    ∙ ap (part_of o xs (inside.lo + c.args.from)) end
    ∙ folded_now g.B.Body.operations (g.B.Body.is_within inside.body) now inside.body inside.first inside.room inside.lo inside.hi xs c.self.view_is c.join_laws.ensures c.args.from c.args.to c.requires.order (omega (arith, k.1, c.requires.last, c.self.invariant.order)) lists h
