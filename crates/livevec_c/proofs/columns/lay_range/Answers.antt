-- Proof of `lay_range`: puts the cells of one of the two scans of a range into a column that has exactly as many places.
use Rattle.std.proofs.Common.{◌≡◌, ◌+◌, ◌-◌, ◌++◌, length, map, take, refl, sym, ap, ◌∙◌, arith}
use Rattle.std.proofs.lemmas.List.{map-append, take_all}
use Rattle.lv_edits.specs.History.{list_of}
use Rattle.lv_edits.specs.Ranges.{slice_of}
use Rattle.lv_summary.proofs.FoldableLaws.{can_fold}
use Rattle.lv_reduce.specs.Answer.{scan_of}
use Rattle.lv_reduce.specs.Running.{scan_from}
use Rattle.lv_reduce.proofs.PieceLaws.{slice_can_go_on, slice_range-run, slice_scanned}
use Rattle.livevec_c.proofs.columns.lay_range.Goals as goal

pub lay_run-sum-requires-clause-can : goal.lay_run-sum-requires-clause-can
lay_run-sum-requires-clause-can g c κs within =
    let body = c.args.body.now in
    let xs = list_of c.args.history.now.journal in
    let can = can_fold c.args.history.now c.size-size.ensures.limits in
    let few = slice_can_go_on (g.B.Body.operations body) (g.B.Body.is_within body) (g.B.Body.laws c.args.body.now) xs can c.args.lo c.loop-at.at (length c.run_at-run.result.now) c.loop-at.invariant.low (omega (arith, c.requires, c.loop-at-test.true, c.run_at-run.ensures.few)) c.loop-at.sum c.loop-at.invariant.sum in
    record { count = few.count; count_within = few.count_within; few = omega (arith, few.few) }

pub loop-at-preserved : goal.loop-at-preserved
loop-at-preserved g c =
    let o = g.B.Body.operations c.args.body.now in
    let cell_of = g.B.Celled.cell_of in
    let xs = list_of c.args.history.now.journal in
    let lo = c.args.lo in
    let at = c.loop-at.at in
    let run = c.run_at-run.result.now in
    let kept = c.loop-at.invariant in
    let made = c.lay_run-sum.ensures in
    let new = c.lay_run-sum.new.column in
    let more = slice_range-run xs lo at run kept.low c.run_at-run.ensures.elements in
    let place : at + length run - lo ≡ at - lo + length run = omega (arith, kept.low) in
    let front = scan_of c.args.inclusive o (slice_of c.args.history.now.journal lo at) in
    let rest = scan_from c.args.inclusive o c.loop-at.sum run in
    let gone = slice_scanned o c.args.inclusive xs lo at (at + length run) run more c.loop-at.sum c.lay_run-sum.result front (front ++ rest) kept.sum refl made.sum refl in
    record {
      low = omega (arith, kept.low);
      high = omega (arith, c.run_at-run.ensures.few);
      cells =
          ap (λ n. take n new) place
          ∙ made.cells
          ∙ ap (λ ys. ys ++ map cell_of rest) kept.cells
          ∙ sym (map-append cell_of front rest)
          ∙ ap (map cell_of) gone.1;
      sum = gone.0;
      len = made.len ∙ kept.len;
    }

pub returns : goal.returns
returns g c =
    let o = g.B.Body.operations c.args.body.now in
    let journal = c.args.history.now.journal in
    let hi = c.args.lo + length c.args.column.now in
    let kept = c.loop-at.invariant in
    let all : c.loop-at.at ≡ hi = omega (arith, kept.high, c.loop-at-test.false) in
    sym (take_all (c.loop-at.at - c.args.lo) c.loop-at.column (omega (arith, kept.len, all)))
    ∙ kept.cells
    ∙ ap (λ end. map g.B.Celled.cell_of (scan_of c.args.inclusive o (slice_of journal c.args.lo end))) all
