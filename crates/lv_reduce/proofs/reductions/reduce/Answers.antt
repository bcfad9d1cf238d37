-- Proof of `reduce`: the fold of the elements from index `lo` up to `hi`, `hi` excluded.
use Rattle.std.proofs.Common.{◌≡◌, ◌-◌, ◌+◌, ◌^◌, ◌<◌, ◌≤◌, FitsSigned, length, rules, refl, subst, sym, ◌∙◌, arith}
use Rattle.std.specs.Int.{w64}
use Rattle.std.proofs.lemmas.Int.{to_z-of_z}
use Rattle.lv_geometry.proofs.NodeLaws.{some_width}
use Rattle.lv_edits.specs.History.{list_of}
use Rattle.lv_summary.specs.Table.{fresh_in}
use Rattle.lv_reduce.proofs.Bounds.{few_reads}
use Rattle.lv_reduce.proofs.NodeLaws.{cell_fits}
use Rattle.lv_summary.proofs.FoldableLaws.{can_fold}
use Rattle.lv_reduce.proofs.PieceLaws.{piece_folds, slice-joined, slice-nothing, slice-within, slices_can_join}
use Rattle.lv_reduce.proofs.ScanLaws.{fold_of-slice-more}
use Rattle.lv_reduce.proofs.GreatestLaws.{fresh_of_piece}
use Rattle.lv_reduce.proofs.WalkLaws.{walk_cell, walk_node, walk_ends, walk_starts}
use Rattle.lv_reduce.proofs.reductions.reduce.Goals as goal

pub loop-at-init : goal.loop-at-init
loop-at-init g c =
    let body = c.args.body.now in
    let nothing : 0 ≡ c.args.lo - c.args.lo = omega arith in
    record {
      walk = walk_starts (fresh_in c.args.view.table.now) c.args.lo c.args.hi c.in_default.ensures.order;
      fold = c.identity-value.ensures ∙ slice-nothing (g.B.Body.operations body) (list_of c.args.view.cells.now.journal) c.args.lo;
      within = subst (λ n. g.B.Body.is_within body c.identity-value.result n) nothing (subst (λ s. g.B.Body.is_within body s 0) (sym c.identity-value.ensures) (g.B.Body.laws c.args.body.now).identity_within);
    }

pub join-value-requires-after_bounds : goal.join-value-requires-after_bounds
join-value-requires-after_bounds g c = λ _ _.
    let body = c.args.body.now in
    let o = g.B.Body.operations body in
    let edits = c.args.view.cells.now.journal in
    let at = c.loop-at.at in
    let piece = c.in-Some-greatest_fresh.ensures.some in
    let level = c.in-Some-greatest_fresh.piece.level in
    slices_can_join o (g.B.Body.is_within body) (g.B.Body.laws c.args.body.now) (list_of edits) (can_fold c.args.view.cells.now c.refusal_of.ensures.limits)
    c.args.lo at (at + 8 ^ level) c.loop-at.invariant.walk.low (omega arith) (omega (arith, piece.fits.ends, c.in_default.ensures.inside))
    c.loop-at.value c.in-Some-greatest_fresh.piece.summary c.loop-at.invariant.fold
    (piece_folds o edits c.args.view.table.now at c.args.hi level c.in-Some-greatest_fresh.piece.summary c.requires piece)

pub loop-at-smaller-in-Some-greatest_fresh : goal.loop-at-smaller-in-Some-greatest_fresh
loop-at-smaller-in-Some-greatest_fresh g c =
    let level = c.in-Some-greatest_fresh.piece.level in
    omega (arith, some_width level, c.width-at.ensures, c.loop-at-test.true)

pub loop-at-preserved-in-Some-greatest_fresh : goal.loop-at-preserved-in-Some-greatest_fresh
loop-at-preserved-in-Some-greatest_fresh g c =
    let fresh = fresh_in c.args.view.table.now in
    let body = c.args.body.now in
    let o = g.B.Body.operations body in
    let edits = c.args.view.cells.now.journal in
    let lo = c.args.lo in
    let at = c.loop-at.at in
    let summary = c.in-Some-greatest_fresh.piece.summary in
    let level = c.in-Some-greatest_fresh.piece.level in
    let piece = c.in-Some-greatest_fresh.ensures.some in
    let within = g.B.Body.is_within body in
    let laws = g.B.Body.laws c.args.body.now in
    let can = can_fold c.args.view.cells.now c.refusal_of.ensures.limits in
    let inside : at + 8 ^ level ≤ length (list_of edits) = omega (arith, piece.fits.ends, c.in_default.ensures.inside) in
    let folds = piece_folds o edits c.args.view.table.now at c.args.hi level summary c.requires piece in
    let walk = walk_node fresh lo c.args.hi at c.loop-at.cells_read c.loop-at.summaries_read level c.loop-at.invariant.walk piece.high piece.fits piece.greatest piece.low (fresh_of_piece c.args.view.table.now at c.args.hi level summary piece) in
    let fold = slice-joined o within laws (list_of edits) can lo at (at + 8 ^ level) c.loop-at.invariant.walk.low (omega arith) inside c.loop-at.value summary c.join-value.result c.loop-at.invariant.fold folds c.join-value.ensures.value in
    rw c.width-at.ensures record {
      walk = walk;
      fold = fold;
      within = subst (λ s. within s (at + 8 ^ level - lo)) (sym fold) (slice-within o within laws (list_of edits) can lo (at + 8 ^ level) (omega arith) inside);
    }

pub loop-at-preserved : goal.loop-at-preserved
loop-at-preserved g c =
    let fresh = fresh_in c.args.view.table.now in
    let body = c.args.body.now in
    let o = g.B.Body.operations body in
    let edits = c.args.view.cells.now.journal in
    let xs = list_of edits in
    let lo = c.args.lo in
    let at = c.loop-at.at in
    let x = c.read.result in
    let low = c.loop-at.invariant.walk.low in
    let small : at < length xs = omega (arith, c.loop-at-test.true, c.in_default.ensures.inside) in
    let fits : FitsSigned w64 x = search rules in
    let place : at - lo + 1 ≡ at + 1 - lo = omega (arith, low) in
    record {
      walk = walk_cell fresh lo c.args.hi at c.loop-at.cells_read c.loop-at.summaries_read 0 c.loop-at.invariant.walk (omega arith) (cell_fits at c.args.hi c.loop-at-test.true) c.in_default-greatest_fresh.ensures.none refl c.loop-at-test.true;
      fold = fold_of-slice-more o xs lo at x low small c.read.ensures.value c.loop-at.value c.fold_more-value.result _ (to_z-of_z w64 x fits) c.loop-at.invariant.fold c.fold_more-value.ensures.value;
      within = subst (λ n. g.B.Body.is_within body c.fold_more-value.result n) place (c.fold_more-value.ensures.within (at - lo) c.loop-at.invariant.within (omega (arith, c.refusal_of.ensures.limits.few)));
    }

pub returns-clause-cost : goal.returns-clause-cost
returns-clause-cost g c = walk_ends (fresh_in c.args.view.table.now) c.args.lo c.args.hi c.loop-at.at c.loop-at.cells_read c.loop-at.summaries_read c.loop-at.invariant.walk c.loop-at-test.false

pub returns-clause-few : goal.returns-clause-few
returns-clause-few g c =
    let cost = walk_ends (fresh_in c.args.view.table.now) c.args.lo c.args.hi c.loop-at.at c.loop-at.cells_read c.loop-at.summaries_read c.loop-at.invariant.walk c.loop-at-test.false in
    few_reads (fresh_in c.args.view.table.now) c.args.lo c.args.hi c.loop-at.cells_read c.loop-at.summaries_read (omega (arith, c.in_default.ensures.inside, c.refusal_of.ensures.limits.few)) cost
