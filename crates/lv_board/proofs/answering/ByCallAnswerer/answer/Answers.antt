-- Proof of an answerer's `answer` by a closure: that it may be called has one proof, so it is had of one that is hidden.
use Rattle.std.proofs.Common.{refl}
use Rattle.std.proofs.Math.Logic.{∥∥₁_elim}
use mathlib.Core.Equiv.{IsContr-prop}
use Rattle.lv_board.proofs.answering.ByCallAnswerer.answer.Goals as goal

pub call-requires : goal.call-requires
call-requires g c = (∥∥₁_elim c.requires IsContr-prop (λ may. may _ _ refl refl)).0

pub returns : goal.returns
returns g c = record {
  s = _;
  h = _;
  result = _;
  s' = _;
  h' = _;
  called = c.call.ensures;
  seat_is = refl;
  held_is = refl;
  after_is = refl;
  left_is = refl;
}
