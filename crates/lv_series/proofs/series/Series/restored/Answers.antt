-- Proof of `Series::restored`: a series made of what was saved of one.
use Rattle.std.proofs.Common.{◌/◌, arith}
use Rattle.lv_series.proofs.series.Series.restored.Goals as goal

pub invariant_of-result : goal.invariant_of-result
invariant_of-result c =
    let first = c.args.first in (
      record {
        low = omega arith;
        high = omega (arith, c.in-Some.ensures.many);
        all = c.in-Some.ensures.all;
        few = c.in-Some.ensures.few;
        numbered = omega (arith, c.in-Some.ensures.many, c.requires);
      },
      c.new.ensures.over (first / 8) first c.in-Some.elements.items,
    )
