-- Proof of `Live::new`: an empty vector, for which nothing is claimed and nothing kept.
use Rattle.std.proofs.Common.{ap}
use Rattle.lv_live.proofs.LiveLaws.{live_empty}
use Rattle.lv_live.proofs.live.Live.new.Goals as goal

pub invariant_of-result : goal.invariant_of-result
invariant_of-result g c =
    live_empty (g.B.Body.operations c.args.body) _ (ap (λ h. h.journal) c.new.ensures.history) c.new.ensures.limits c.new-2.ensures.size c.new-2.ensures.untouched c.new-2.ensures.nothing_kept
