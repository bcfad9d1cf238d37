-- Proof of `Level::are_current`: whether what was delivered for each of eight neighbours, from one on, has the number of the edit that touched it last.
use Rattle.std.proofs.Common.{◌≡◌, ◌+◌, ◌&&◌, ◌<◌, ap, arith, length, nat_eq, slice_index, sym, ◌∙◌}
use Rattle.std.proofs.lemmas.List.{get_or_read}
use Rattle.lv_summary.proofs.ChildLaws.{one_more_all}
use Rattle.lv_summary.proofs.level.Level.are_current.Goals as goal

pub loop-k-preserved : goal.loop-k-preserved
loop-k-preserved g c =
    let stamps = c.args.self.now.rows.stamps in
    let touched = c.args.self.now.rows.touched in
    let i = c.args.first + c.loop-k.k in
    let stamped : i < length stamps = omega (arith, c.requires.stamps, c.loop-k-test.true) in
    let touch : i < length touched = omega (arith, c.requires.touched, c.loop-k-test.true) in
    let stamp : c.index.result.now ≡ slice_index stamps i = rw (← c.self.view_is) (get_or_read c.self.inside.stamps.items i c.index.result.now (rw (← c.self.view_is) at stamped) c.index.ensures 0) in
    let edit : c.index-in-loop-k.result.now ≡ slice_index touched i = rw (← c.self.view_is) (get_or_read c.self.inside.touched.items i c.index-in-loop-k.result.now (rw (← c.self.view_is) at touch) c.index-in-loop-k.ensures 0) in
    ap (λ stamp. c.loop-k.current && nat_eq stamp (c.index-in-loop-k.result.now + 1)) stamp
    ∙ ap (λ edit. c.loop-k.current && nat_eq (slice_index stamps i) (edit + 1)) edit
    ∙ ap (λ all. all && nat_eq (slice_index stamps i) (slice_index touched i + 1)) c.loop-k.invariant
    ∙ sym (one_more_all (λ k. nat_eq (slice_index stamps (c.args.first + k)) (slice_index touched (c.args.first + k) + 1)) c.loop-k.k)
