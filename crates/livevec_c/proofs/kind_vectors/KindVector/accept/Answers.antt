-- Proof of `KindVector::accept`: delivers an outcome: it is stale, or held already, or its summary is installed.
use Rattle.livevec_c.proofs.kind_vectors.KindVector.accept.Goals as goal

pub accept-requires-after_bounds : goal.accept-requires-after_bounds
accept-requires-after_bounds c κs = rw (← c.self.view_is) at c.requires
