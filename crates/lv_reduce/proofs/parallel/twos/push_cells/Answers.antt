-- Proof of `push_cells`: pushes one of the two scans of a range of a vector, by runs of neighbouring cells.
use Rattle.std.proofs.Common.{◌+◌, length, ◌∙◌, arith}
use Rattle.lv_edits.specs.History.{list_of}
use Rattle.lv_reduce.proofs.PieceLaws.{slice_can_go_on, slice_range-run, slice_scanned}
use Rattle.lv_reduce.proofs.parallel.twos.push_cells.Goals as goal

pub push_folds-sum-requires-clause-can : goal.push_folds-sum-requires-clause-can
push_folds-sum-requires-clause-can g c κs within =
    let body = c.args.body.now in
    let xs = list_of c.args.history.now.journal in
    slice_can_go_on (g.B.Body.operations body) (g.B.Body.is_within body) (g.B.Body.laws c.args.body.now) xs c.requires.can c.args.lo c.loop-at.at (length c.run_at-run.result.now) c.loop-at.invariant.low (omega (arith, c.requires.inside, c.run_at-run.ensures.few)) c.loop-at.sum c.loop-at.invariant.sum

pub loop-at-preserved : goal.loop-at-preserved
loop-at-preserved g c =
    let o = g.B.Body.operations c.args.body.now in
    let xs = list_of c.args.history.now.journal in
    let at = c.loop-at.at in
    let run = c.run_at-run.result.now in
    let few = c.run_at-run.ensures.few in
    let kept = c.loop-at.invariant in
    let made = c.push_folds-sum.ensures in
    let more = slice_range-run xs c.args.lo at run kept.low c.run_at-run.ensures.elements in
    let gone = slice_scanned o c.args.inclusive xs c.args.lo at (at + length run) run more c.loop-at.sum c.push_folds-sum.result c.loop-at.values.items c.push_folds-sum.new.values.items kept.sum kept.values made.sum made.values in
    record {
      low = omega (arith, kept.low);
      high = omega (arith, few);
      values = gone.1;
      sum = gone.0;
      count = omega (arith, made.len, kept.count, kept.low, few);
      capacity = made.capacity ∙ kept.capacity;
    }
