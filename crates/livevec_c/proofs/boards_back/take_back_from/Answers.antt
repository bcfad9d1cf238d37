-- Proof of `take_back_from`.
use Rattle.std.proofs.Common.{◌∙◌, Some, ap, sym}
use Rattle.livevec_c.proofs.boards_back.take_back_from.Goals as goal

pub returns-in-Some : goal.returns-in-Some
returns-in-Some c = rw (c.in-Some.ensures.taken ∙ ap Some (sym c.deref_mut.ensures.value)) (_, c.put-in-Some.ensures, c.take_back_by-answer.ensures)
