-- Proof of `open_board`: puts a new board into an empty slot.
use Rattle.std.proofs.Common.{inl, inr}
use Rattle.livevec_c.proofs.boards.open_board.Goals as goal

pub returns-in-Ok : goal.returns-in-Ok
returns-in-Ok c = elim c.house.ensures [
  | inl none ↦ inr (inl (none.0, c.in-Ok.ensures.ok.allowed, none.1))
  | inr some ↦ inr (inr (some.0, (c.in-Ok.board, some.1, c.in-Ok.ensures.ok)))
]
