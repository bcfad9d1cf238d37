-- Proof of `Upper::set_below`: marks the numbers below `count`.
use Rattle.std.proofs.Common.{◌||◌, nat_eq, ap, ◌∙◌}
use Rattle.lv_refresh.proofs.MarkLaws.{below_next}
use Rattle.lv_refresh.proofs.upper.Upper.set_below.Goals as goal

pub loop-i-preserved : goal.loop-i-preserved
loop-i-preserved g c =
    record {
      marks = λ j. c.set.ensures.marks j ∙ ap (λ marked. nat_eq j c.loop-i.i || marked) (c.loop-i.invariant.marks j) ∙ below_next j c.loop-i.i _;
      room = c.set.ensures.room ∙ c.loop-i.invariant.room;
    }
