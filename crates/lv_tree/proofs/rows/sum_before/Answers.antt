-- Proof of `sum_before`: the sum of the leaves before a place.
use Rattle.std.proofs.Common.{◌+◌, ◌%◌, ◌^◌, ◌<◌, length, map, vec_items, sym, ap, ◌∙◌, arith}
use Rattle.std.proofs.lemmas.List.{get_or_read, length-map}
use Rattle.lv_tree.proofs.Groups.{place_inside, row_read, sums_last, sums_on}
use Rattle.lv_tree.specs.Rows.{row_of}
use Rattle.std.proofs.Common.{get_or}
use Rattle.lv_tree.proofs.rows.sum_before.Goals as goal

pub loop-l-preserved : goal.loop-l-preserved
loop-l-preserved c =
    let rows = c.args.rows.now in
    let xs = map vec_items rows.items in
    let l = c.loop-l.l in
    let place = c.loop-l.place in
    let here : l < length xs = omega (arith, c.loop-l-test.true, c.len-l-end.ensures, length-map rows.items vec_items, rows.ok.0) in
    let row = row_read vec_items rows.items l c.index.result.now (omega (arith, here, length-map rows.items vec_items)) c.index.ensures in
    let inside : place < length (row_of xs l) = place_inside xs c.args.end l place c.requires c.loop-l.invariant.low here in
    let x_is = get_or_read c.index.result.now.items place c.index-in-loop-l.result.now (omega (arith, inside, ap length row)) c.index-in-loop-l.ensures 0 in
    sums_on xs c.args.end l place c.loop-l.sum ((c.index-in-loop-l.result.now + c.loop-l.sum) % 2 ^ 64) c.loop-l.invariant here
    (ap (λ x. (x + c.loop-l.sum) % 2 ^ 64) (x_is ∙ ap (λ r. get_or r place 0) (sym row)))

pub returns : goal.returns
returns c =
    let rows = c.args.rows.now in
    sums_last (map vec_items rows.items) c.args.end c.loop-l.l c.loop-l.place c.loop-l.sum c.loop-l.invariant c.requires
    (omega (arith, c.loop-l-test.false, c.len-l-end.ensures, length-map rows.items vec_items, rows.ok.0))
