-- Proof of `fold_by_blocks`: the fold of a range whose blocks have leaves.
use Rattle.std.proofs.Common.{◌≡◌, ◌*◌, ◌/◌, slice_range, sym, ap, ◌∙◌, subst}
use Rattle.std.specs.Int.{div_ceil}
use Rattle.lv_bodies.specs.Body.{fold_of}
use Rattle.lv_tree.proofs.ranges.fold_by_blocks.Goals as goal

pub join_ends-requires-clause-middle : goal.join_ends-requires-clause-middle
join_ends-requires-clause-middle g c κs within =
    let xs = g.E.Elements.listed c.args.elements.now in
    let o = g.T.B.Body.operations (g.T.Tree.by c.args.tree.now) in
    let s = c.fold_leaves-middle.result in
    let b = c.args.hi / 8 in
    subst (λ t. s ≡ fold_of (g.T.B.Body.operations t) (slice_range xs (8 * div_ceil c.args.lo 8) (8 * b))) (sym c.body-body.ensures)
    (c.fold_leaves-middle.ensures ∙ ap (λ k. fold_of o (slice_range xs (8 * k) (8 * b))) c.div_ceil-start.ensures)
