-- Proof of `befores_of`: for each piece of so many elements, the fold of all elements before it.
use Rattle.std.proofs.Common.{◌≡◌, ◌*◌, ◌-◌, ◌<◌, ◌++◌, ◌∷◌, [], length, map, take, drop, vec_len, slice_index_or, sym, ap, ◌∙◌, arith}
use Rattle.std.specs.List.{range_with_len}
use Rattle.std.proofs.lemmas.List.FromFn.{map-range_with_len_more}
use Rattle.lv_bodies.specs.Body.{CanFold, fold_of}
use Rattle.lv_summary.proofs.FoldableLaws.{part_can_fold}
use Rattle.lv_reduce.specs.declared.rows.Part.{Part}
use Rattle.lv_reduce.specs.Rows.{IsPart, elements_in, elements_of}
use Rattle.lv_reduce.proofs.PieceSums.{before_all, before_next, can_join_piece}
use Rattle.lv_reduce.proofs.parallel.slices.befores_of.Goals as goal

-- the elements of the part may be folded
can : {part : Part} → IsPart part → CanFold (elements_of part)
can {part} is = part_can_fold (part.hi - part.lo) part.lo (elements_in part.row) is.can

pub join-before-requires-after_bounds : goal.join-before-requires-after_bounds
join-before-requires-after_bounds g c κs within =
    let body = c.args.body.now in
    let o = g.B.Body.operations body in
    let xs = elements_of c.args.part in
    let size = c.args.size in
    let k = c.loop-fold.fold-index in
    let same = c.as_slice-fold-items.ensures.value in
    let inside : k < length c.in_ok-folds.folds.items = omega (arith, c.loop-fold-test.true, ap length same) in
    let piece = c.fold-item.result in
    let fold : piece ≡ fold_of o (take size (drop (k * size) xs)) =
    c.fold-item.is ∙ ap (λ l. slice_index_or l k piece) same ∙ c.in_ok-folds.ensures.folds k piece inside in
    can_join_piece o (g.B.Body.is_within body) (g.B.Body.laws c.args.body.now) xs (can c.requires.part) size k c.loop-fold.before piece c.loop-fold.invariant.before fold

pub loop-fold-preserved : goal.loop-fold-preserved
loop-fold-preserved g c =
    let body = c.args.body.now in
    let o = g.B.Body.operations body in
    let xs = elements_of c.args.part in
    let size = c.args.size in
    let k = c.loop-fold.fold-index in
    let same = c.as_slice-fold-items.ensures.value in
    let inside : k < length c.in_ok-folds.folds.items = omega (arith, c.loop-fold-test.true, ap length same) in
    let piece = c.fold-item.result in
    let fold : piece ≡ fold_of o (take size (drop (k * size) xs)) =
    c.fold-item.is ∙ ap (λ l. slice_index_or l k piece) same ∙ c.in_ok-folds.ensures.folds k piece inside in
    let kept = c.loop-fold.invariant in
    record {
      before = before_next o (g.B.Body.is_within body) (g.B.Body.laws c.args.body.now) xs (can c.requires.part) size k c.loop-fold.before piece c.join-before.result kept.before fold c.join-before.ensures.value;
      befores =
          c.push_reserved.ensures.items
          ∙ ap (λ l. l ++ c.loop-fold.before ∷ []) kept.befores
          ∙ ap (λ s. map (λ n. fold_of o (take (n * size) xs)) (range_with_len 0 k) ++ s ∷ []) kept.before
          ∙ sym (map-range_with_len_more (λ n. fold_of o (take (n * size) xs)) 0 k k (omega arith));
      pushed = omega (arith, c.push_reserved.ensures.len, kept.pushed);
      room = omega (arith, c.push_reserved.ensures.capacity, kept.room);
    }

pub returns : goal.returns
returns g c =
    let o = g.B.Body.operations c.args.body.now in
    let xs = elements_of c.args.part in
    let k = c.loop-fold.fold-index in
    let all : vec_len c.in_ok-folds.folds ≡ k = omega (arith, c.as_slice-fold-items.ensures.len, c.loop-fold-test.false) in
    before_all o xs c.args.size k c.loop-fold.befores.items c.loop-fold.invariant.befores (rw all at c.in_ok-folds.ensures.count)
