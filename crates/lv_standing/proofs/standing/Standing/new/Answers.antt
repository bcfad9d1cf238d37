-- Proof of `Standing::new`: an empty vector, and no queries.
use Rattle.std.proofs.Common.{[], arith, refl, subst}
use Rattle.lv_bodies.specs.Plain.{program_table}
use Rattle.lv_tree.specs.Kinds.{AreKept}
use Rattle.lv_tree.proofs.KeptLaws.{AreReady-new}
use Rattle.lv_standing.proofs.standing.Standing.new.Goals as goal

pub invariant_of-result : goal.invariant_of-result
invariant_of-result c =
    rw (c.new-2.ensures) record {
      limits = c.new.ensures.limits;
      most = refl;
      few = omega arith;
      apart = λ i j d before within same. absurd (omega (arith, within));
      told = refl;
      summaries_are = c.new-3.ensures.items;
      kept = rw (c.new.ensures.history) (AreReady-new program_table c.new-4.result (subst (λ t. AreKept t [] c.new-4.result) c.program.ensures c.new-4.ensures.kept));
    }
