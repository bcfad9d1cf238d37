-- Proof of `Hub::claim`: a job for the least node that needs one, or none.
use Rattle.std.proofs.Common.{◌≡◌, Some, ap, sym, ◌∙◌}
use Rattle.std.proofs.lemmas.Option.{same_Some}
use Rattle.lv_hub.proofs.ToldLaws.{claim_told}
use Rattle.lv_hub.proofs.hubs.Hub.claim.Goals as goal

-- it was answered by the desk in the lock, which has the hub's monoid instance
pub returns : goal.returns
returns g c =
    let of : c.deref_mut.result.now.live.body ≡ c.args.self.now = same_Some _ _ (sym c.claim.ensures.body ∙ c.self.invariant ∙ ap Some c.self.view_is) in
    claim_told g.B.Body.operations _ _ c.deref_mut.result.now.live c.claim.new.self.live c.claim.result c.claim.ensures.vector of c.claim.ensures.live c.claim.ensures.stays_live c.claim.ensures.next c.claim.ensures.claimed c.claim.ensures.job_body c.claim.ensures.honest
