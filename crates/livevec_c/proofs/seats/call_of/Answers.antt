-- Proof of `call_of`: a call of an object.
use Rattle.std.proofs.Common.{refl}
use Rattle.livevec_c.proofs.seats.call_of.Goals as goal

pub returns-in-Seat : goal.returns-in-Seat
returns-in-Seat c = rw c.in-Seat.is (c.call_seat.new.seat, refl, (c.call_seat.result, refl, c.call_seat.ensures))
