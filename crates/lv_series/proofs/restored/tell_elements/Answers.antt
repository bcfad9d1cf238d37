-- Proof of `tell_elements`: proves that the elements of a slice are of 64 bits.
use Rattle.std.proofs.Common.{◌<◌, pos, length, rules, arith, slice_index_or}
use Rattle.std.proofs.lemmas.List.Elements.{All-more}
use Rattle.lv_geometry.specs.Elements.{IsElement}
use Rattle.lv_series.proofs.restored.tell_elements.Goals as goal

pub loop-x-preserved : goal.loop-x-preserved
loop-x-preserved c =
    let small : c.loop-x.x-index < length c.args.xs.now = omega arith in
    let e : IsElement (slice_index_or c.args.xs.now c.loop-x.x-index (pos 0)) = search rules in
    All-more IsElement c.args.xs.now c.loop-x.x-index (pos 0) small c.loop-x.invariant e
