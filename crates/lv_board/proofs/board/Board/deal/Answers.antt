-- Proof of `Board::deal`: the next seat.
use Rattle.std.proofs.Common.{sym, ap, ◌∙◌, arith}
use Rattle.lv_machine.specs.History.{own}
use Rattle.lv_board.proofs.Advancing.{own-nil}
use Rattle.lv_board.proofs.Opens.{deals_at_key, first_look, fresh_seat, is_seat}
use Rattle.lv_board.proofs.board.Board.deal.Goals as goal

pub split_seat-token-requires : goal.split_seat-token-requires
split_seat-token-requires g c =
    let (number, is, below) = c.requires.deals in (
      c.requires.here,
      omega (arith, c.args.self.now.count),
      deals_at_key (Unit {0}) g.B.BoardBody.folding c.args.self.now.terms c.args.self.now.table.shared.key c.args.dealer.now.id number c.args.dealer.now.me.0 c.args.self.now.key (ap (λ m. m.0) is) below,
    )

pub invariant_of-result : goal.invariant_of-result
invariant_of-result g c =
    let (number, is, below) = c.requires.deals in
    let made = c.split_seat-token.ensures.4 in
    let view = fresh_seat c.args.self.now.terms number c.args.dealer.now.me.0 c.split_seat-token.result.me.0 (ap (λ m. m.0) is) (ap (λ m. m.0) made) in
    record {
      basis = c.args.self.now.basis;
      sits = is_seat c.args.self.now.terms number c.split_seat-token.result.me.0 view;
      based = ap (λ v. v.bases) view;
      slots = ap (λ m. m.1) made;
      made = ap (λ v. own v.actor.number v.actor.known) view ∙ own-nil number ∙ sym (ap (λ v. v.actor.own) view);
      looks = first_look c.args.self.now.terms.buckets c.args.self.now.terms.edits c.first_descriptor.result c.split_seat-token.result.me.0.actor.seen c.first_descriptor.ensures (ap (λ v. v.actor.seen) view);
    }
