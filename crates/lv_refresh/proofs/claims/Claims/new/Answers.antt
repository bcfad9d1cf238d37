-- Proof of `Claims::new`: no claims, and room for none.
use Rattle.lv_geometry.proofs.NodeLaws.{at_each_level}
use Rattle.lv_refresh.proofs.ClaimLaws.{AreClaims-empty, claim_blocks-empty, claimed_in-empty}
use Rattle.lv_refresh.proofs.claims.Claims.new.Goals as goal

pub invariant_of-result : goal.invariant_of-result
invariant_of-result c = AreClaims-empty _ (at_each_level _ c.new.ensures c.new-2.ensures c.new-3.ensures c.new-4.ensures c.new-5.ensures c.new-6.ensures)

pub returns-clause-blocks : goal.returns-clause-blocks
returns-clause-blocks c = claim_blocks-empty _ (at_each_level _ c.new.ensures c.new-2.ensures c.new-3.ensures c.new-4.ensures c.new-5.ensures c.new-6.ensures)

pub returns-clause-claimed : goal.returns-clause-claimed
returns-clause-claimed c = claimed_in-empty _ (at_each_level _ c.new.ensures c.new-2.ensures c.new-3.ensures c.new-4.ensures c.new-5.ensures c.new-6.ensures)
