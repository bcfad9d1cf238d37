-- Proof of `KindVector::refresh`: does jobs in place, the least first, at most `jobs` of them, and returns how many it did.
use Rattle.livevec_c.proofs.kind_vectors.KindVector.refresh.Goals as goal

pub returns-clause-turns : goal.returns-clause-turns
returns-clause-turns c = rw (← c.self.view_is) c.refresh.ensures.turns
