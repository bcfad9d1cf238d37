-- Proof of `fold_cells`: the fold of a range of a vector, by runs of neighbouring cells.
use Rattle.std.proofs.Common.{length, arith}
use Rattle.lv_edits.specs.History.{list_of}
use Rattle.lv_reduce.proofs.PieceLaws.{slice-run, slice_can_go_on}
use Rattle.lv_reduce.proofs.rows.fold_cells.Goals as goal

pub fold_on-sum-requires-after_bounds : goal.fold_on-sum-requires-after_bounds
fold_on-sum-requires-after_bounds g c κs within =
    let body = c.args.body.now in
    let xs = list_of c.args.history.now.journal in
    let count = length c.run_at-run.result.now in
    slice_can_go_on (g.B.Body.operations body) (g.B.Body.is_within body) (g.B.Body.laws c.args.body.now) xs c.requires.can c.args.lo c.loop-at.at count c.loop-at.invariant.low (omega (arith, c.requires.inside, c.run_at-run.ensures.few)) c.loop-at.sum c.loop-at.invariant.sum

pub loop-at-preserved : goal.loop-at-preserved
loop-at-preserved g c =
    let body = c.args.body.now in
    let xs = list_of c.args.history.now.journal in
    let run = c.run_at-run.result.now in
    record {
      low = omega (arith, c.loop-at.invariant.low);
      high = omega (arith, c.run_at-run.ensures.few);
      sum = slice-run (g.B.Body.operations body) (g.B.Body.is_within body) (g.B.Body.laws c.args.body.now) xs c.requires.can c.args.lo c.loop-at.at run c.loop-at.invariant.low c.run_at-run.ensures.elements c.loop-at.sum c.fold_on-sum.result c.loop-at.invariant.sum c.fold_on-sum.ensures;
    }
