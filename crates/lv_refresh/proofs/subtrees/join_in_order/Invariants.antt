-- What the loop keeps in `join_in_order`: summaries joined from left to right.
use Rattle.std.proofs.Common.{◌≡◌, fold, take}
use Rattle.lv_refresh.proofs.subtrees.join_in_order.Given as goal

-- those so far were joined
abbrev pub invariant-loop-summary : goal.invariant-loop-summary
invariant-loop-summary g l =
    let o = g.B.Body.operations l.body in
    l.sum ≡ fold o.join o.identity (take l.summary-index l.summaries)
