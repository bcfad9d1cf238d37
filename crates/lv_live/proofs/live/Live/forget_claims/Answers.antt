-- Proof of `Live::forget_claims`: forgets all claims.
use Rattle.lv_live.proofs.LiveLaws.{live_after_forget}
use Rattle.lv_live.proofs.live.Live.forget_claims.Goals as goal

pub invariant_of-self : goal.invariant_of-self
invariant_of-self g c = live_after_forget _ _ _ c.self.invariant c.forget_claims.ensures.blocks c.forget_claims.ensures.hints
