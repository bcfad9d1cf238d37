-- Proof of `close_of`: closes an object that is a board.
use Rattle.std.proofs.Common.{sym}
use Rattle.livevec_c.proofs.closed.close_of.Goals as goal

pub returns : goal.returns
returns c = rw c.refill.ensures (rw (sym c.replace.ensures.value) c.close_object-left.ensures)
