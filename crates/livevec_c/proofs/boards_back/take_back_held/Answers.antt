-- Proof of `take_back_held`: takes back the object that was taken out of the seat's slot, if it is a seat of this board.
use Rattle.std.proofs.Common.{◌∙◌, Some, ap, inr, refl, sym}
use Rattle.livevec_c.proofs.boards_back.take_back_held.Goals as goal

pub returns-in-Err : goal.returns-in-Err
returns-in-Err c =
    let err = c.in-Err.ensures.err in
    rw (sym c.deref_mut.ensures.value ∙ sym c.replace.ensures.value ∙ c.in-Seat.is)
    (inr (refl, err.1, err.2, (c.in-Err.same, c.put.ensures ∙ ap Some c.refilled.ensures, err.0)))
