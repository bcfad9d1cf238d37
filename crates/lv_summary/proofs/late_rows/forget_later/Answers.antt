-- Proof of `forget_later`: makes every item of some pieces blank.
use Rattle.std.proofs.Common.{◌≢◌, ◌<◌, [], ◌∙◌, arith, below_more, get_or-set_other, get_or-set_same, length, length-set}
use Rattle.lv_summary.proofs.LateLaws.{later_item-none}
use Rattle.lv_summary.proofs.late_rows.forget_later.Goals as goal

pub loop-k-preserved : goal.loop-k-preserved
loop-k-preserved g c =
    let there : c.loop-k.k < length c.loop-k.later.items = omega (arith, c.loop-k.invariant.pieces) in
    record {
      pieces = length-set c.loop-k.later.items c.loop-k.k c.forget.new.self ∙ c.loop-k.invariant.pieces;
      none = below_more _ _
          (λ j before. let other : j ≢ c.loop-k.k = omega arith in get_or-set_other c.loop-k.later.items c.loop-k.k j c.forget.new.self [] other ∙ c.loop-k.invariant.none j before)
          (get_or-set_same c.loop-k.later.items c.loop-k.k c.forget.new.self [] there ∙ c.forget.ensures);
    }

pub returns-clause-blank : goal.returns-clause-blank
returns-clause-blank g c =
    later_item-none c.loop-k.later.items (λ j inside. c.loop-k.invariant.none j (omega (arith, c.loop-k.invariant.pieces)))
