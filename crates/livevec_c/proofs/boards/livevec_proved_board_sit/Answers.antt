-- Proof of `livevec_proved_board_sit`: puts the first of the seats that are there into an empty slot.
use Rattle.std.proofs.Common.{◌∙◌, Some, ap, sym}
use Rattle.livevec_c.proofs.Empty.{is_none-None}
use Rattle.livevec_c.proofs.boards.livevec_proved_board_sit.Goals as goal

pub returns-in-Some : goal.returns-in-Some
returns-in-Some c =
    rw (is_none-None _ (sym c.if-is_full.ensures.full))
    (rw (c.in-Some.ensures.taken ∙ ap Some (sym c.deref_mut.ensures.value)) (_, c.put.ensures, c.sit_of-answer.ensures))
