-- Proof of `copy_range`: the elements of a range, copied out of the vector, with room made at once.
use Rattle.std.proofs.Common.{◌++◌, sym, ap, ◌∙◌, arith}
use Rattle.lv_edits.specs.History.{list_of}
use Rattle.lv_reduce.proofs.PieceLaws.{slice_range-run}
use Rattle.lv_reduce.proofs.parallel.copy_range.Goals as goal

pub loop-at-preserved : goal.loop-at-preserved
loop-at-preserved c =
    let xs = list_of c.args.history.now.journal in
    let lo = c.args.lo in
    let at = c.loop-at.at in
    let run = c.run_at-run.result.now in
    let few = c.run_at-run.ensures.few in
    let kept = c.loop-at.invariant in
    let made = c.in_ok-extend_from_slice.ensures in
    record {
      low = omega (arith, kept.low);
      high = omega (arith, few);
      copied =
          made.items
          ∙ ap (λ ys. ys ++ run) kept.copied
          ∙ sym (slice_range-run xs lo at run kept.low c.run_at-run.ensures.elements);
      count = omega (arith, made.len, kept.count, kept.low, few);
      room = omega (arith, made.capacity, kept.room);
    }
