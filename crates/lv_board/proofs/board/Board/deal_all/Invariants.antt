-- Loop invariants of `Board::deal_all`: all seats, in the order of their numbers.
use Rattle.std.specs.Prelude.{◌≡◌, ◌≤◌, [], length, vec_capacity}
use Rattle.lv_board.specs.Opening.{AreDealt}
use Rattle.lv_board.specs.TableRule.{dealer_from}
use Rattle.lv_board.proofs.board.Board.deal_all.Given as goal

abbrev pub invariant-loop-number : goal.invariant-loop-number
invariant-loop-number g l = record {
  here : l.dealer.table_id ≡ l.self.table.shared.table_id;
  deals : l.dealer.me ≡ (dealer_from l.self.terms l._number, []);
  count : length l.seats.items ≡ l._number;
  dealt : AreDealt l.self.table.shared.table_id l.self.terms l.seats.items;
  room : l.self.terms.seats ≤ vec_capacity l.seats;
}
