-- Loop invariants of `Board::gather`: merges seats into one token, whose view has their actors in the order of the seats.
use Rattle.std.specs.Prelude.{◌≡◌, true, ◌∷◌, ◌++◌, [], map}
use Rattle.lv_board.specs.Closing.{AreAt}
use Rattle.lv_board.specs.Tells.{actor_of}
use Rattle.lv_board.proofs.board.Board.gather.Given as goal

abbrev pub invariant-loop-seat : goal.invariant-loop-seat
invariant-loop-seat g l = record {
  table : l.gathered.table_id ≡ l.fn.self.table.shared.table_id;
  slots : l.gathered.me.1 ≡ [];
  sits : l.gathered.me.0.sits ≡ true;
  at : AreAt l.fn.self.table.shared.table_id l.fn.self.terms l.seats.items;
  actors : map actor_of l.seats.items ++ l.gathered.me.0.actor ∷ l.gathered.me.0.more ≡ map actor_of (l.fn.seats.items ++ l.fn.last ∷ []);
}

abbrev pub decreases-loop-seat : goal.decreases-loop-seat
decreases-loop-seat g l = goal.left-loop-seat g l
