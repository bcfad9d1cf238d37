-- Proof of `join_ends`: the parts of a range, joined in order.
use Rattle.std.proofs.Common.{◌≡◌, slice_range, sym, subst, arith}
use Rattle.lv_bodies.specs.Body.{fold_of}
use Rattle.lv_tree.proofs.RangeLaws.{AreEnds, all_joined, first_may, second_may}
use Rattle.lv_series.proofs.layers.join_ends.Goals as goal

pub combine_long-joined-requires : goal.combine_long-joined-requires
combine_long-joined-requires g c =
    let a = c.args in
    let ends : AreEnds a.from a.to a.start a.end = record { low = c.requires.low; order = c.requires.order; high = c.requires.high } in
    first_may (g.B.Body.operations a.body.now) (g.B.Body.is_within a.body.now) c.long_laws.ensures a.elements.now c.requires.elements (omega (arith, c.requires.few)) a.from a.to a.start a.end ends
    c.fold_long-front.result a.middle c.fold_long-back.result a.middle c.fold_long-front.ensures.fold c.requires.middle c.fold_long-back.ensures.fold

pub combine_long-requires : goal.combine_long-requires
combine_long-requires g c =
    let a = c.args in
    let ends : AreEnds a.from a.to a.start a.end = record { low = c.requires.low; order = c.requires.order; high = c.requires.high } in
    second_may (g.B.Body.operations a.body.now) (g.B.Body.is_within a.body.now) c.long_laws.ensures a.elements.now c.requires.elements (omega (arith, c.requires.few)) a.from a.to a.start a.end ends
    c.fold_long-front.result a.middle c.fold_long-back.result c.combine_long-joined.result c.fold_long-front.ensures.fold c.requires.middle c.fold_long-back.ensures.fold c.combine_long-joined.ensures

pub returns : goal.returns
returns g c =
    let a = c.args in
    let ends : AreEnds a.from a.to a.start a.end = record { low = c.requires.low; order = c.requires.order; high = c.requires.high } in
    let joined : (g.B.Body.operations a.body.now).join c.combine_long-joined.result c.fold_long-back.result ≡ fold_of (g.B.Body.operations a.body.now) (slice_range a.elements.now a.from a.to) =
    all_joined (g.B.Body.operations a.body.now) (g.B.Body.is_within a.body.now) c.long_laws.ensures a.elements.now c.requires.elements (omega (arith, c.requires.few)) a.from a.to a.start a.end ends
    c.fold_long-front.result a.middle c.fold_long-back.result c.combine_long-joined.result c.fold_long-front.ensures.fold c.requires.middle c.fold_long-back.ensures.fold c.combine_long-joined.ensures in
    subst (λ s. s ≡ fold_of (g.B.Body.operations a.body.now) (slice_range a.elements.now a.from a.to)) (sym c.combine_long.ensures) joined
