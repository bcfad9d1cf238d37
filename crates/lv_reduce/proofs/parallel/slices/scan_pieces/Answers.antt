-- Proof of `scan_pieces`: puts the scan of each piece of so many elements where its values belong, by a thread that has the piece.
use Rattle.std.proofs.Common.{◌≡◌, ◌-◌, ◌*◌, min, length, take, drop, sym, ap, ◌∙◌, arith}
use Rattle.std.proofs.lemmas.List.{length-drop, length-take}
use Rattle.lv_bodies.specs.Body.{fold_of}
use Rattle.lv_edits.proofs.Slices.{length-slice_range}
use Rattle.lv_reduce.specs.Rows.{elements_in, elements_of}
use Rattle.lv_reduce.specs.Running.{scan_from}
use Rattle.lv_reduce.proofs.RunLaws.{scan_of-pieces, slice_of_piece}
use Rattle.lv_reduce.proofs.parallel.slices.scan_pieces.Goals as goal

pub returns : goal.returns
returns g c =
    let o = g.B.Body.operations c.args.body.now in
    let part = c.args.part in
    let xs = elements_of part in
    let all : length xs ≡ part.hi - part.lo = length-slice_range (elements_in part.row) part.lo part.hi c.requires.part.order c.requires.part.inside in
    let size = c.args.size in
    let old = c.args.values.now in
    let new = c.par_chunks_mut_for_each.new.s in
    scan_of-pieces o c.args.inclusive size xs new c.requires.size (omega (arith, all, c.requires.len)) (λ n inside.
    let at = n * size in
    let made = c.par_chunks_mut_for_each.ensures.chunks n (omega (arith, inside, all, c.requires.len)) in
    let m = length made.argument.now in
    let long : m ≡ min size (length xs - at) =
    omega (arith, ap length made.argument_is, length-take size (drop at old), length-drop at old, all, c.requires.len) in
    sym made.left ∙ made.call ∙ ap (scan_from c.args.inclusive o (fold_of o (take at xs))) (slice_of_piece xs at size m long))
