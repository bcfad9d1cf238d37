-- Proof of `Board::tell`: a note of what a seat knows.
use Rattle.std.proofs.Common.{arith}
use Rattle.lv_board.proofs.Opens.{notes_at_key}
use Rattle.lv_board.proofs.board.Board.tell.Goals as goal

pub split_seat-requires : goal.split_seat-requires
split_seat-requires g c = (
  c.requires.at,
  omega (arith, c.args.self.now.count),
  notes_at_key (Unit {0}) g.B.BoardBody.folding c.args.self.now.terms c.args.self.now.table.shared.key c.args.seat.now.token.id c.args.seat.now.token.me.0 c.args.self.now.key,
)
