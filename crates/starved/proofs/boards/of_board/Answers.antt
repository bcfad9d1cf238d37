-- Proof of `of_board`: the calls of a board that may want memory.
use Rattle.std.proofs.Common.{ap, ◌∙◌, sym}
use Rattle.lv_board.proofs.Ordered.{dealt_order}
use Rattle.starved.proofs.boards.of_board.Goals as goal

pub closed-requires-after_bounds : goal.closed-requires-after_bounds
closed-requires-after_bounds g c κs within = dealt_order c.in_ok-board.board.table.shared.table_id c.in_ok-board.board.terms c.in_ok-board.seats.items (c.in_ok-board.ensures.count ∙ sym (ap (λ z. z.seats) c.in_ok-board.ensures.basis)) c.in_ok-board.ensures.dealt
