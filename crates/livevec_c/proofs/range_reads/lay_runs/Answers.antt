-- Proof of `lay_runs`: puts the elements of a range into a buffer that has exactly as many places.
use Rattle.std.proofs.Common.{◌≡◌, ◌+◌, ◌-◌, ◌++◌, length, take, sym, ap, ◌∙◌, arith}
use Rattle.std.proofs.lemmas.List.{take_all}
use Rattle.lv_edits.specs.History.{list_of}
use Rattle.lv_edits.specs.Ranges.{slice_of}
use Rattle.lv_reduce.proofs.PieceLaws.{slice_range-run}
use Rattle.livevec_c.proofs.range_reads.lay_runs.Goals as goal

pub loop-at-preserved : goal.loop-at-preserved
loop-at-preserved c =
    let lo = c.args.lo in
    let at = c.loop-at.at in
    let run = c.run_at-run.result.now in
    let kept = c.loop-at.invariant in
    let place : at + length run - lo ≡ at - lo + length run = omega (arith, kept.low) in
    record {
      low = omega (arith, kept.low);
      high = omega (arith, c.run_at-run.ensures.few);
      put =
          ap (λ n. take n c.lay_at.new.buffer) place
          ∙ c.lay_at.ensures.elements
          ∙ ap (λ ys. ys ++ run) kept.put
          ∙ sym (slice_range-run (list_of c.args.history.now.journal) lo at run kept.low c.run_at-run.ensures.elements);
      len = c.lay_at.ensures.len ∙ kept.len;
    }

pub returns : goal.returns
returns c =
    let kept = c.loop-at.invariant in
    let all : c.loop-at.at ≡ c.args.lo + length c.args.buffer.now = omega (arith, kept.high, c.loop-at-test.false) in
    sym (take_all (c.loop-at.at - c.args.lo) c.loop-at.buffer (omega (arith, kept.len, all)))
    ∙ kept.put
    ∙ ap (slice_of c.args.history.now.journal c.args.lo) all
