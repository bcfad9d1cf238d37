-- Proof of `scan_cells`: puts the scan of a range of a vector where its values belong, by runs of neighbouring cells.
use Rattle.std.proofs.Common.{◌≡◌, ◌+◌, ◌-◌, length, take, sym, ap, ◌∙◌, arith}
use Rattle.std.proofs.lemmas.List.{take_all}
use Rattle.lv_edits.specs.History.{list_of}
use Rattle.lv_edits.specs.Ranges.{slice_of}
use Rattle.lv_reduce.specs.Running.{scan_from}
use Rattle.lv_reduce.proofs.PieceLaws.{slice_can_go_on, slice_range-run, slice_scanned_from, slice_went_on}
use Rattle.lv_reduce.proofs.parallel.slices.scan_cells.Goals as goal

pub scan_into-sum-requires-clause-can : goal.scan_into-sum-requires-clause-can
scan_into-sum-requires-clause-can g c κs within =
    let body = c.args.body.now in
    let o = g.B.Body.operations body in
    let xs = list_of c.args.history.now.journal in
    let at = c.loop-at.at in
    let kept = c.loop-at.invariant in
    let so_far = slice_went_on o xs c.requires.before.0 c.args.lo at c.requires.before.1 kept.low c.args.before c.loop-at.sum c.requires.before.2 kept.sum in
    slice_can_go_on o (g.B.Body.is_within body) (g.B.Body.laws c.args.body.now) xs c.requires.can c.requires.before.0 at (length c.run_at-run.result.now) (omega (arith, c.requires.before.1, kept.low)) (omega (arith, c.requires.inside, c.loop-at-test.true, c.run_at-run.ensures.few)) c.loop-at.sum so_far

pub loop-at-preserved : goal.loop-at-preserved
loop-at-preserved g c =
    let o = g.B.Body.operations c.args.body.now in
    let xs = list_of c.args.history.now.journal in
    let lo = c.args.lo in
    let at = c.loop-at.at in
    let run = c.run_at-run.result.now in
    let kept = c.loop-at.invariant in
    let made = c.scan_into-sum.ensures in
    let new = c.scan_into-sum.new.values in
    let more = slice_range-run xs lo at run kept.low c.run_at-run.ensures.elements in
    let place : at + length run - lo ≡ at - lo + length run = omega (arith, kept.low) in
    let gone = slice_scanned_from o c.args.inclusive c.args.before xs lo at (at + length run) run more c.loop-at.sum c.scan_into-sum.result (take (at - lo) c.loop-at.values) (take (at - lo + length run) new) kept.sum kept.values made.sum made.values in
    record {
      low = omega (arith, kept.low);
      high = omega (arith, c.run_at-run.ensures.few);
      values = ap (λ n. take n new) place ∙ gone.1;
      sum = gone.0;
      len = made.len ∙ kept.len;
    }

pub returns : goal.returns
returns g c =
    let o = g.B.Body.operations c.args.body.now in
    let journal = c.args.history.now.journal in
    let hi = c.args.lo + length c.args.values.now in
    let kept = c.loop-at.invariant in
    let all : c.loop-at.at ≡ hi = omega (arith, kept.high, c.loop-at-test.false) in
    sym (take_all (c.loop-at.at - c.args.lo) c.loop-at.values (omega (arith, kept.len, all)))
    ∙ kept.values
    ∙ ap (λ end. scan_from c.args.inclusive o c.args.before (slice_of journal c.args.lo end)) all
