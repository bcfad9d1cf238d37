-- Proof of `livevec_proved_claim`: puts a job for the least node that needs one into an empty slot.
use Rattle.std.proofs.Common.{◌∙◌, Some, ap, sym}
use Rattle.livevec_c.proofs.Empty.{is_none-None}
use Rattle.livevec_c.proofs.jobs.livevec_proved_claim.Goals as goal

pub returns-in-Some : goal.returns-in-Some
returns-in-Some c =
    rw (is_none-None _ (sym c.if-is_full.ensures.full))
    (rw (c.in-Some.ensures.taken ∙ ap Some (sym c.deref_mut.ensures.value)) (_, c.put.ensures, c.claim_of-answer.ensures))
