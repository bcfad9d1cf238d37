-- Proof of `sit_board`: puts the first of the seats that are there into an empty slot.
use Rattle.std.proofs.Common.{Some, ap, refl, inr, ◌∙◌}
use Rattle.livevec_c.proofs.Seatless.{nobody_sits}
use Rattle.livevec_c.proofs.boards.sit_board.Goals as goal

pub returns-in-Err : goal.returns-in-Err
returns-in-Err c = rw c.unseated.ensures (nobody_sits c.args.board.now c.sit_at.new.board c.in-Err.why c.args.seat.now.raw.inner c.in-Err.ensures.err.0 c.in-Err.ensures.err.1 c.requires)

pub returns-in-Ok-sit_at : goal.returns-in-Ok-sit_at
returns-in-Ok-sit_at c = inr (inr (refl, (c.in-Ok-sit_at.taken, c.put.ensures ∙ ap Some c.refilled.ensures, c.in-Ok-sit_at.ensures.ok, c.in-Ok-sit_at.ensures.out)))
