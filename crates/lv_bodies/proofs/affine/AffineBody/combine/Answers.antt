-- Proof of `AffineBody::combine`.
use Rattle.lv_bodies.proofs.affine.AffineBody.combine.Goals as goal

-- the left map is taken first
pub returns : goal.returns
returns c = c.then.ensures
