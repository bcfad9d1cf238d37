-- Proof of `livevec_proved_board_new`: puts a new board with so many seats into an empty slot.
use Rattle.std.proofs.Common.{refl, inr, sym}
use Rattle.livevec_c.proofs.Empty.{is_none-None}
use Rattle.livevec_c.proofs.Programs.{board_alike}
use Rattle.livevec_c.proofs.boards.livevec_proved_board_new.Goals as goal

pub returns-in-Ok : goal.returns-in-Ok
returns-in-Ok c =
    rw (is_none-None _ (sym c.if-is_full.ensures.full))
    (rw (sym c.in-Some.ensures) (inr (c.in-Ok.ensures.allowed.0 refl, board_alike _ _ _ _ _ _ _ c.in-Ok.ensures.ok c.open_board.ensures)))
