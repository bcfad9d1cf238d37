-- Proof of `livevec_proved_refresh`: computes at most so many summaries in place.
use Rattle.std.proofs.Common.{◌∙◌, Some, ap, sym}
use Rattle.livevec_c.proofs.jobs.livevec_proved_refresh.Goals as goal

pub returns-in-Some : goal.returns-in-Some
returns-in-Some c = rw (c.in-Some.ensures.taken ∙ ap Some (sym c.deref_mut.ensures.value)) (_, c.put.ensures, c.refresh_of-answer.ensures)
