-- Proof of `KindVector::accept_subtree`: takes a subtree in, if it wasn't taken in yet and the vector still has the elements that it was computed
-- from.
use Rattle.livevec_c.proofs.KindVectorLaws.{still_kind_vector}
use Rattle.livevec_c.proofs.SubtreeLaws.{Promised, stays}
use Rattle.livevec_c.proofs.kind_vectors.KindVector.accept_subtree.Goals as goal

pub invariant_of-self : goal.invariant_of-self
invariant_of-self c =
    let i = c.self.inside in
    let told = c.accept_subtree.ensures in
    let same = stays c.accept_subtree.result i.live c.accept_subtree.new.self c.args.outcome.now c.accept_subtree.new.outcome (record { answer = told.answer; kept = told.kept; spent = told.spent; refused = told.refused }) in
    still_kind_vector i.limits i.live c.accept_subtree.new.self i.kinds same.0 same.1 c.self.invariant
