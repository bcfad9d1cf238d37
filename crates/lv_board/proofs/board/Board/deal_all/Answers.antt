-- Proof of `Board::deal_all`: all seats, in the order of their numbers.
use Rattle.std.proofs.Common.{◌≡◌, ◌+◌, [], length, sym, ap, ◌∙◌, subst, arith}
use Rattle.std.proofs.lemmas.List.{length_push}
use Rattle.lv_board.specs.Opening.{AreDealt}
use Rattle.lv_board.specs.TableRule.{dealer_from}
use Rattle.lv_board.specs.Rule.{newcomer}
use Rattle.lv_board.proofs.Opens.{dealt_more}
use Rattle.lv_board.proofs.board.Board.deal_all.Goals as goal

pub deal-seat-requires-clause-deals : goal.deal-seat-requires-clause-deals
deal-seat-requires-clause-deals g c = λ _ _. (c.loop-number._number, c.loop-number.invariant.deals, omega arith)

pub loop-number-preserved : goal.loop-number-preserved
loop-number-preserved g c =
    let inv = c.loop-number.invariant in
    let number : c.loop-number.dealer.me.0.actor.number ≡ c.loop-number._number = ap (λ m. m.0.actor.number) inv.deals in
    record {
      here = c.deal-seat.ensures.here ∙ inv.here;
      deals = c.deal-seat.ensures.deals ∙ ap (λ n. (dealer_from c.args.self.now.terms (n + 1), [])) number;
      count = ap length c.push_reserved.ensures.items ∙ length_push c.loop-number.seats.items c.deal-seat.result ∙ ap (λ n. n + 1) inv.count;
      dealt = subst (AreDealt c.args.self.now.table.shared.table_id c.args.self.now.terms) (sym c.push_reserved.ensures.items) (dealt_more c.args.self.now.table.shared.table_id c.args.self.now.terms c.loop-number.seats.items c.deal-seat.result inv.dealt c.deal-seat.ensures.seat (c.deal-seat.ensures.actor ∙ ap newcomer (number ∙ sym inv.count)));
      room = omega (arith, inv.room, c.push_reserved.ensures.capacity);
    }
