-- Proof of `Claims::forget_claims`: makes every claim void, so that every node may want a job.
use Rattle.lv_refresh.specs.Inner.{claims_of}
use Rattle.lv_geometry.proofs.NodeLaws.{at_each_level}
use Rattle.lv_refresh.proofs.ClaimLaws.{AreClaims-forgot, claim_blocks-forgot, claimed_in-forgot, is_hinted-forgot}
use Rattle.lv_refresh.proofs.claims.Claims.forget_claims.Goals as goal

pub invariant_of-self : goal.invariant_of-self
invariant_of-self c = AreClaims-forgot _ _ (at_each_level _ c.forget.ensures c.forget-2.ensures c.forget-3.ensures c.forget-4.ensures c.forget-5.ensures c.forget-6.ensures) c.self.invariant

pub returns-clause-claimed : goal.returns-clause-claimed
returns-clause-claimed c =
    let old = claims_of c.self.inside.levels in
    claimed_in-forgot old _ (at_each_level _ c.forget.ensures c.forget-2.ensures c.forget-3.ensures c.forget-4.ensures c.forget-5.ensures c.forget-6.ensures)

pub returns-clause-hints : goal.returns-clause-hints
returns-clause-hints c = rw (← c.self.view_is) (is_hinted-forgot _ _ (at_each_level _ c.forget.ensures c.forget-2.ensures c.forget-3.ensures c.forget-4.ensures c.forget-5.ensures c.forget-6.ensures) c.self.invariant)

pub returns-clause-blocks : goal.returns-clause-blocks
returns-clause-blocks c = rw (← c.self.view_is) (claim_blocks-forgot _ _ (at_each_level _ c.forget.ensures c.forget-2.ensures c.forget-3.ensures c.forget-4.ensures c.forget-5.ensures c.forget-6.ensures))
