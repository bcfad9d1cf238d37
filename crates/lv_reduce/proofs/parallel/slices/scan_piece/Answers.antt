-- Proof of `scan_piece`: puts the scan of the piece that begins at an index where its values belong.
use Rattle.std.proofs.Common.{◌≡◌, ℕ, ℤ, ◌/◌, ◌%◌, ◌+◌, ◌-◌, ◌<◌, ◌≤◌, List, length, slice_index_or, slice_range, subst, sym, ap, ◌∙◌, take, arith}
use Rattle.std.proofs.lemmas.List.{take_all}
use Rattle.lv_bodies.specs.Body.{Operations, fold_of}
use Rattle.lv_edits.proofs.Slices.{length-slice_range}
use Rattle.lv_reduce.specs.Rows.{elements_in, elements_of}
use Rattle.lv_reduce.specs.Running.{AreBefore, CanGoOn, scan_from}
use Rattle.lv_reduce.proofs.PieceLaws.{front_of_slice, slice_can_go_on, slice_of_slice}
use Rattle.lv_reduce.proofs.RunLaws.{place_of}
use Rattle.lv_reduce.proofs.parallel.slices.scan_piece.Goals as goal

-- the fold of the elements before the piece that begins at an index
stands_before : {S : Type 0} (o : Operations S) (xs : List ℤ) (size start : ℕ) (befores : List S) (before : S) → AreBefore o size xs befores → start % size ≡ 0 → start < length xs → before ≡ slice_index_or befores (start / size) before → before ≡ fold_of o (take start xs)
stands_before o xs size start befores before are begins inside is =
    let place = place_of start size begins in
    let there : start / size < length befores = are.count (start / size) (omega (arith, place, inside)) in
    is ∙ are.folds (start / size) before there ∙ ap (λ n. fold_of o (take n xs)) place

-- the elements of the piece, by their indices in the row
piece_is : (xs : List ℤ) (lo hi start m : ℕ) → start + m ≤ hi - lo → slice_range xs (lo + start) (lo + start + m) ≡ slice_range (slice_range xs lo hi) start (start + m)
piece_is xs lo hi start m inside =
    let place : lo + start + m ≡ lo + (start + m) = omega arith in
    ap (slice_range xs (lo + start)) place ∙ sym (slice_of_slice xs lo hi start (start + m) (omega arith) inside)

pub scan_into-requires-clause-can : goal.scan_into-requires-clause-can
scan_into-requires-clause-can g c κs within =
    let body = c.args.body.now in
    let o = g.B.Body.operations body in
    let is_within = g.B.Body.is_within body in
    let part = c.args.part in
    let xs = elements_in part.row in
    let start = c.args.start in
    let m = length c.args.piece.now in
    let before = c.index-befores-start.result in
    let long = length-slice_range xs part.lo part.hi c.requires.can_fold.order c.requires.can_fold.inside in
    let is = stands_before o (elements_of part) c.args.size start c.args.befores.now before c.requires.are_before c.requires.begins (omega (arith, long, c.requires.some, c.requires.inside)) c.index-befores-start.is in
    let so_far = is ∙ ap (fold_of o) (front_of_slice xs part.lo part.hi start (omega (arith, c.requires.inside))) in
    let same = ap (λ row. length (slice_range (elements_in row) (part.lo + start) (part.lo + start + m))) c.in-Slice.is in
    let inside : part.lo + start + m ≤ length xs = omega (arith, c.requires.inside, c.requires.can_fold.inside, c.requires.can_fold.order) in
    let many = sym (length-slice_range xs (part.lo + start) (part.lo + start + m) (omega arith) inside) ∙ same in
    let wide : m ≡ part.lo + start + m - (part.lo + start) = omega arith in
    subst (CanGoOn is_within before) (wide ∙ many)
    (slice_can_go_on o is_within (g.B.Body.laws c.args.body.now) xs c.requires.can_fold.can part.lo (part.lo + start) m (omega arith) inside before so_far)

pub scan_cells-requires-clause-before : goal.scan_cells-requires-clause-before
scan_cells-requires-clause-before g c κs within =
    let o = g.B.Body.operations c.args.body.now in
    let part = c.args.part in
    let xs = elements_in part.row in
    let start = c.args.start in
    let before = c.index-befores-start.result in
    let long = length-slice_range xs part.lo part.hi c.requires.can_fold.order c.requires.can_fold.inside in
    let is = stands_before o (elements_of part) c.args.size start c.args.befores.now before c.requires.are_before c.requires.begins (omega (arith, long, c.requires.some, c.requires.inside)) c.index-befores-start.is in
    let so_far = is ∙ ap (fold_of o) (front_of_slice xs part.lo part.hi start (omega (arith, c.requires.inside))) in
    (part.lo, omega arith, so_far ∙ ap (λ row. fold_of o (slice_range (elements_in row) part.lo (part.lo + start))) c.in-Cells.is)

pub returns-in-Cells : goal.returns-in-Cells
returns-in-Cells g c =
    let o = g.B.Body.operations c.args.body.now in
    let part = c.args.part in
    let start = c.args.start in
    let m = length c.args.piece.now in
    let before = c.index-befores-start.result in
    let long = length-slice_range (elements_in part.row) part.lo part.hi c.requires.can_fold.order c.requires.can_fold.inside in
    let is = stands_before o (elements_of part) c.args.size start c.args.befores.now before c.requires.are_before c.requires.begins (omega (arith, long, c.requires.some, c.requires.inside)) c.index-befores-start.is in
    c.scan_cells.ensures
    ∙ sym (ap (λ row. scan_from c.args.inclusive o before (slice_range (elements_in row) (part.lo + start) (part.lo + start + m))) c.in-Cells.is)
    ∙ ap (scan_from c.args.inclusive o before) (piece_is (elements_in part.row) part.lo part.hi start m c.requires.inside)
    ∙ ap (λ s. scan_from c.args.inclusive o s (slice_range (elements_of part) start (start + m))) is

pub returns-in-Slice : goal.returns-in-Slice
returns-in-Slice g c =
    let o = g.B.Body.operations c.args.body.now in
    let part = c.args.part in
    let xs = elements_in part.row in
    let start = c.args.start in
    let m = length c.args.piece.now in
    let before = c.index-befores-start.result in
    let long = length-slice_range xs part.lo part.hi c.requires.can_fold.order c.requires.can_fold.inside in
    let is = stands_before o (elements_of part) c.args.size start c.args.befores.now before c.requires.are_before c.requires.begins (omega (arith, long, c.requires.some, c.requires.inside)) c.index-befores-start.is in
    let inside : part.lo + start + m ≤ length xs = omega (arith, c.requires.inside, c.requires.can_fold.inside, c.requires.can_fold.order) in
    let many = length-slice_range xs (part.lo + start) (part.lo + start + m) (omega arith) inside in
    let same = ap (λ row. length (slice_range (elements_in row) (part.lo + start) (part.lo + start + m))) c.in-Slice.is in
    sym (take_all _ c.scan_into.new.values (omega (arith, many, same, c.scan_into.ensures.len)))
    ∙ c.scan_into.ensures.values
    ∙ sym (ap (λ row. scan_from c.args.inclusive o before (slice_range (elements_in row) (part.lo + start) (part.lo + start + m))) c.in-Slice.is)
    ∙ ap (scan_from c.args.inclusive o before) (piece_is xs part.lo part.hi start m c.requires.inside)
    ∙ ap (λ s. scan_from c.args.inclusive o s (slice_range (elements_of part) start (start + m))) is
