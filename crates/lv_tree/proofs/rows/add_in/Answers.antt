-- Proof of `add_in`: adds a number in each row to those behind the group of a leaf.
use Rattle.std.proofs.Common.{◌+◌, ◌/◌, ◌<◌, length, map, vec_items, sym, subst, arith}
use Rattle.std.proofs.lemmas.List.{length-map, map-set}
use Rattle.lv_tree.proofs.Groups.{Adding, adds_on, row_read}
use Rattle.lv_tree.proofs.rows.add_in.Goals as goal

pub loop-l-preserved : goal.loop-l-preserved
loop-l-preserved c =
    let old = c.args.rows.now in
    let xs = c.loop-l.rows.items in
    let l = c.loop-l.l in
    let here : l < length (map vec_items xs) = omega (arith, c.loop-l-test.true, c.len-l-end.ensures, c.loop-l.invariant.count, length-map old.items vec_items, old.ok.0) in
    let row = row_read vec_items xs l c.index_mut.result.now (omega (arith, here, length-map xs vec_items)) c.index_mut.ensures.value in
    subst (λ rows. Adding c.args.leaf c.args.more (map vec_items old.items) rows (l + 1) (c.loop-l.place / 8)) (sym (map-set vec_items xs l c.add_behind.new.row))
    (adds_on c.args.leaf c.args.more (map vec_items old.items) (map vec_items xs) l c.loop-l.place c.index_mut.result.now.items c.add_behind.new.row.items c.loop-l.invariant here row c.add_behind.ensures)
