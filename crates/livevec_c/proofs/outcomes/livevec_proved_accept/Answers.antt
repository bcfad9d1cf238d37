-- Proof of `livevec_proved_accept`: delivers an outcome, if vetting says yes.
use Rattle.std.proofs.Common.{◌∙◌, Some, ap, sym}
use Rattle.livevec_c.proofs.outcomes.livevec_proved_accept.Goals as goal

pub returns-in-Some : goal.returns-in-Some
returns-in-Some c = record {
  answer = rw (c.in-Some.ensures.taken ∙ ap Some (sym c.deref_mut.ensures.value)) (_, c.put.ensures, c.accept_with-answer.ensures.answer);
  kept = c.accept_with-answer.ensures.same;
}
