-- Proof of `take_in`: takes in the last leaf.
use Rattle.std.proofs.Common.{◌≡◌, ◌+◌, ◌/◌, ◌%◌, ◌^◌, ◌<◌, get_or, length, map, vec_items, sym, ap, ◌∙◌, subst, arith}
use Rattle.std.proofs.lemmas.List.{get_or_read, length-map, map-set}
use Rattle.lv_tree.specs.Rows.{AreAsLong, AreSums}
use Rattle.lv_tree.proofs.Groups.{Taking, place_there, row_read, taken_all, taken_on}
use Rattle.lv_tree.proofs.rows.take_in.Goals as goal

pub put-requires-in-loop-l : goal.put-requires-in-loop-l
put-requires-in-loop-l c =
    let leaves = c.args.leaves.now.items in
    let old = c.args.rows.now in
    let xs = c.loop-l.rows.items in
    let l = c.loop-l.l in
    let place = c.loop-l.place in
    let here : l < length (map vec_items xs) = omega (arith, c.loop-l-test.true, c.len-l-end.ensures, c.loop-l.invariant.long.count, length-map old.items vec_items, old.ok.0) in
    let inside : l < length xs = omega (arith, here, length-map xs vec_items) in
    let there = place_there leaves (map vec_items old.items) c.requires.sums (map vec_items xs) l place c.loop-l.sum c.loop-l.invariant c.requires.room here in
    let row = row_read vec_items xs l c.index_mut-in-loop-l.result.now inside c.index_mut-in-loop-l.ensures.value in
    omega (arith, there, ap length row)

pub returns-then-place-lt7-clause-sums : goal.returns-then-place-lt7-clause-sums
returns-then-place-lt7-clause-sums c =
    let leaves = c.args.leaves.now.items in
    let old = c.args.rows.now in
    let xs = c.loop-l.rows.items in
    let l = c.loop-l.l in
    let place = c.loop-l.place in
    let here : l < length (map vec_items xs) = omega (arith, c.loop-l-test.true, c.len-l-end.ensures, c.loop-l.invariant.long.count, length-map old.items vec_items, old.ok.0) in
    let inside : l < length xs = omega (arith, here, length-map xs vec_items) in
    let there = place_there leaves (map vec_items old.items) c.requires.sums (map vec_items xs) l place c.loop-l.sum c.loop-l.invariant c.requires.room here in
    let row_read_is = row_read vec_items xs l c.index.result.now inside c.index.ensures in
    let row = row_read vec_items xs l c.index_mut.result.now inside c.index_mut.ensures.value in
    let same = ap (λ r. get_or r place 0) (sym row_read_is ∙ row) in
    let x_is = get_or_read c.index.result.now.items place c.index-in-loop-l.result.now (omega (arith, there, ap length row_read_is)) c.index-in-loop-l.ensures 0 ∙ same in
    let taken = taken_all leaves (map vec_items old.items) c.requires.sums (map vec_items xs) l place c.loop-l.sum c.loop-l.invariant c.requires.room here c.index_mut.result.now.items row c.index-in-loop-l.result.now x_is c.put.new.row.items c.put.ensures c.if-place-lt7.true in
    subst (AreSums leaves) (sym (map-set vec_items xs l c.put.new.row)) taken.0

pub returns-then-place-lt7-clause-long : goal.returns-then-place-lt7-clause-long
returns-then-place-lt7-clause-long c =
    let leaves = c.args.leaves.now.items in
    let old = c.args.rows.now in
    let xs = c.loop-l.rows.items in
    let l = c.loop-l.l in
    let place = c.loop-l.place in
    let here : l < length (map vec_items xs) = omega (arith, c.loop-l-test.true, c.len-l-end.ensures, c.loop-l.invariant.long.count, length-map old.items vec_items, old.ok.0) in
    let inside : l < length xs = omega (arith, here, length-map xs vec_items) in
    let there = place_there leaves (map vec_items old.items) c.requires.sums (map vec_items xs) l place c.loop-l.sum c.loop-l.invariant c.requires.room here in
    let row_read_is = row_read vec_items xs l c.index.result.now inside c.index.ensures in
    let row = row_read vec_items xs l c.index_mut.result.now inside c.index_mut.ensures.value in
    let same = ap (λ r. get_or r place 0) (sym row_read_is ∙ row) in
    let x_is = get_or_read c.index.result.now.items place c.index-in-loop-l.result.now (omega (arith, there, ap length row_read_is)) c.index-in-loop-l.ensures 0 ∙ same in
    let taken = taken_all leaves (map vec_items old.items) c.requires.sums (map vec_items xs) l place c.loop-l.sum c.loop-l.invariant c.requires.room here c.index_mut.result.now.items row c.index-in-loop-l.result.now x_is c.put.new.row.items c.put.ensures c.if-place-lt7.true in
    subst (AreAsLong (map vec_items old.items)) (sym (map-set vec_items xs l c.put.new.row)) taken.1

pub loop-l-preserved : goal.loop-l-preserved
loop-l-preserved c =
    let leaves = c.args.leaves.now.items in
    let old = c.args.rows.now in
    let xs = c.loop-l.rows.items in
    let l = c.loop-l.l in
    let place = c.loop-l.place in
    let here : l < length (map vec_items xs) = omega (arith, c.loop-l-test.true, c.len-l-end.ensures, c.loop-l.invariant.long.count, length-map old.items vec_items, old.ok.0) in
    let inside : l < length xs = omega (arith, here, length-map xs vec_items) in
    let there = place_there leaves (map vec_items old.items) c.requires.sums (map vec_items xs) l place c.loop-l.sum c.loop-l.invariant c.requires.room here in
    let row_read_is = row_read vec_items xs l c.index.result.now inside c.index.ensures in
    let row = row_read vec_items xs l c.index_mut-in-loop-l.result.now inside c.index_mut-in-loop-l.ensures.value in
    let same = ap (λ r. get_or r place 0) (sym row_read_is ∙ row) in
    let x_is = get_or_read c.index.result.now.items place c.index-in-loop-l.result.now (omega (arith, there, ap length row_read_is)) c.index-in-loop-l.ensures 0 ∙ same in
    let last : place % 8 ≡ 7 = omega (arith, c.if-place-lt7.false) in
    subst (λ rows. Taking leaves (map vec_items old.items) rows (l + 1) (place / 8) ((c.index-in-loop-l.result.now + c.loop-l.sum) % 2 ^ 64)) (sym (map-set vec_items xs l c.put-in-loop-l.new.row))
    (taken_on leaves (map vec_items old.items) c.requires.sums (map vec_items xs) l place c.loop-l.sum c.loop-l.invariant c.requires.room here c.index_mut-in-loop-l.result.now.items row c.index-in-loop-l.result.now x_is c.put-in-loop-l.new.row.items c.put-in-loop-l.ensures last)
