-- Proof of `join_ends`: the blocks of a range, and the elements at its two ends.
use Rattle.std.proofs.Common.{◌*◌, ◌/◌, slice_range, sym, ap, ◌∙◌, subst}
use Rattle.lv_bodies.specs.Body.{fold_of}
use Rattle.lv_tree.proofs.RangeLaws.{AreEnds, all_joined, ends, first_may, second_may}
use Rattle.lv_tree.proofs.element_folds.join_ends.Goals as goal

pub combine_long-joined-requires : goal.combine_long-joined-requires
combine_long-joined-requires g c =
    let body = c.args.body.now in
    let o = g.B.Body.operations body in
    let xs = g.E.Elements.listed c.args.elements.now in
    let all = c.bounds.ensures.elements in
    let few = c.bounds.ensures.few in
    let a = 8 * c.div_ceil-start.result in
    let b = 8 * (c.args.hi / 8) in
    let back_to = sym c.div_ceil-start.ensures in
    let e = subst (λ k. AreEnds c.args.lo c.args.hi (8 * k) b) back_to (ends c.args.lo c.args.hi c.requires.apart) in
    let middle = c.requires.middle ∙ ap (λ k. fold_of o (slice_range xs (8 * k) b)) back_to in
    first_may o (g.B.Body.is_within body) c.long_laws.ensures xs all few c.args.lo c.args.hi a b e c.fold_elements-front.result c.args.middle c.fold_elements-back.result c.args.middle c.fold_elements-front.ensures middle c.fold_elements-back.ensures

pub combine_long-requires : goal.combine_long-requires
combine_long-requires g c =
    let body = c.args.body.now in
    let o = g.B.Body.operations body in
    let xs = g.E.Elements.listed c.args.elements.now in
    let all = c.bounds.ensures.elements in
    let few = c.bounds.ensures.few in
    let a = 8 * c.div_ceil-start.result in
    let b = 8 * (c.args.hi / 8) in
    let back_to = sym c.div_ceil-start.ensures in
    let e = subst (λ k. AreEnds c.args.lo c.args.hi (8 * k) b) back_to (ends c.args.lo c.args.hi c.requires.apart) in
    let middle = c.requires.middle ∙ ap (λ k. fold_of o (slice_range xs (8 * k) b)) back_to in
    second_may o (g.B.Body.is_within body) c.long_laws.ensures xs all few c.args.lo c.args.hi a b e c.fold_elements-front.result c.args.middle c.fold_elements-back.result c.combine_long-joined.result c.fold_elements-front.ensures middle c.fold_elements-back.ensures c.combine_long-joined.ensures

pub returns : goal.returns
returns g c =
    let body = c.args.body.now in
    let o = g.B.Body.operations body in
    let xs = g.E.Elements.listed c.args.elements.now in
    let all = c.bounds.ensures.elements in
    let few = c.bounds.ensures.few in
    let a = 8 * c.div_ceil-start.result in
    let b = 8 * (c.args.hi / 8) in
    let back_to = sym c.div_ceil-start.ensures in
    let e = subst (λ k. AreEnds c.args.lo c.args.hi (8 * k) b) back_to (ends c.args.lo c.args.hi c.requires.apart) in
    let middle = c.requires.middle ∙ ap (λ k. fold_of o (slice_range xs (8 * k) b)) back_to in
    c.combine_long.ensures ∙ all_joined o (g.B.Body.is_within body) c.long_laws.ensures xs all few c.args.lo c.args.hi a b e c.fold_elements-front.result c.args.middle c.fold_elements-back.result c.combine_long-joined.result c.fold_elements-front.ensures middle c.fold_elements-back.ensures c.combine_long-joined.ensures
