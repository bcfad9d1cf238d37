-- Proof of `livevec_proved_edit_all`: many pushes at once, or many writes.
use Rattle.std.proofs.Common.{◌∙◌, Some, ap, sym}
use Rattle.livevec_c.proofs.pushes.livevec_proved_edit_all.Goals as goal

pub returns-in-Some : goal.returns-in-Some
returns-in-Some c = rw (c.in-Some.ensures.taken ∙ ap Some (sym c.deref_mut.ensures.value)) (_, c.put.ensures, c.edit_at_object-answer.ensures)
