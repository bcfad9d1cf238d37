-- Proof of `Opened::take_back`: takes a seat back, with all that it knows.
use Rattle.std.proofs.Common.{◌<◌, sym, subst, arith}
use Rattle.std.specs.Arc.{arc_value}
use Rattle.std.proofs.lemmas.List.Elements.{All-push}
use Rattle.lv_board.specs.declared.board.Board.{Board}
use Rattle.lv_board.specs.Closing.{AreAt}
use Rattle.lv_board.specs.Tells.{actor_of, IsAt}
use Rattle.lv_board.proofs.Numbers.{AreSome, room_for, some_more}
use Rattle.lv_board.proofs.opened.Opened.take_back.Goals as goal

pub push_reserved-requires : goal.push_reserved-requires
push_reserved-requires g c =
    let old = c.args.self.now in
    let out = c.requires.own c.if-seat_with_board-self.false in
    let below = subst (λ (b : Board g.row.B.Denot g.row.B-S.Denot). (actor_of c.args.seat_with_board.seat).number < b.terms.seats) out.board c.args.seat_with_board.below in
    omega (arith, old.seats.ok.0, old.room, room_for (arc_value old.board).terms.seats old.seats.items c.args.seat_with_board.seat record { below = old.below; apart = old.apart } below out.apart)

pub invariant_of-self : goal.invariant_of-self
invariant_of-self g c =
    let old = c.args.self.now in
    let out = c.requires.own c.if-seat_with_board-self.false in
    let at = subst (λ (b : Board g.row.B.Denot g.row.B-S.Denot). IsAt b.table.shared.table_id b.terms c.args.seat_with_board.seat) out.board c.args.seat_with_board.at in
    let below = subst (λ (b : Board g.row.B.Denot g.row.B-S.Denot). (actor_of c.args.seat_with_board.seat).number < b.terms.seats) out.board c.args.seat_with_board.below in
    let more = subst (AreSome (arc_value old.board).terms.seats) (sym c.push_reserved.ensures.items) (some_more (arc_value old.board).terms.seats old.seats.items c.args.seat_with_board.seat record { below = old.below; apart = old.apart } below out.apart) in
    record {
      at = subst (AreAt (arc_value old.board).table.shared.table_id (arc_value old.board).terms) (sym c.push_reserved.ensures.items) (All-push (IsAt (arc_value old.board).table.shared.table_id (arc_value old.board).terms) old.seats.items c.args.seat_with_board.seat old.at at);
      below = more.below;
      apart = more.apart;
      room = omega (arith, c.push_reserved.ensures.capacity, old.room);
    }
