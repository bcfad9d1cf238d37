-- Proof of `KindVector::new`: an empty vector, for which nothing is claimed and nothing kept.
use Rattle.std.proofs.Common.{[], ap, subst, sym}
use Rattle.lv_bodies.specs.Automata.{table_of}
use Rattle.lv_tree.specs.Kinds.{AreKept, AreReady}
use Rattle.lv_tree.proofs.KeptLaws.{AreReady-new}
use Rattle.livevec_c.proofs.kind_vectors.KindVector.new.Goals as goal

pub invariant_of-result : goal.invariant_of-result
invariant_of-result c =
    let history = c.new.ensures.history in
    let table = table_of c.new.result.body.automaton in
    let kept = subst (λ b. AreKept (table_of b.automaton) [] c.new-2.result) (sym c.new.ensures.body) c.new-2.ensures.kept in
    record {
      limits_are = sym (ap (λ h. h.limits) history);
      kept = subst (λ h. AreReady table h.journal c.new-2.result) (sym history) (AreReady-new table c.new-2.result kept);
    }
