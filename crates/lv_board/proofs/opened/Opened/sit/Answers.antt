-- Proof of `Opened::sit`: takes the seat that has been there for the longest time.
use Rattle.std.proofs.Common.{subst, arith}
use Rattle.std.specs.Arc.{arc_value}
use Rattle.std.proofs.lemmas.List.Elements.{All-tail}
use Rattle.lv_board.specs.Closing.{AreAt}
use Rattle.lv_board.specs.Tells.{IsAt}
use Rattle.lv_board.proofs.Numbers.{AreSome, first_apart, first_of, some_rest}
use Rattle.lv_board.proofs.opened.Opened.sit.Goals as goal

pub invariant_of-self : goal.invariant_of-self
invariant_of-self g c =
    let old = c.args.self.now in
    let same = first_of old.seats.items c.remove-seat.new.self.items c.remove-seat.result (omega (arith, c.remove-seat.ensures.len, old.seats.ok.0)) c.remove-seat.ensures.value c.remove-seat.ensures.items in
    let rest = some_rest (arc_value old.board).terms.seats c.remove-seat.result c.remove-seat.new.self.items (subst (AreSome (arc_value old.board).terms.seats) same record { below = old.below; apart = old.apart }) in
    record {
      at = All-tail (IsAt (arc_value old.board).table.shared.table_id (arc_value old.board).terms) c.remove-seat.result c.remove-seat.new.self.items (subst (AreAt (arc_value old.board).table.shared.table_id (arc_value old.board).terms) same old.at);
      below = rest.below;
      apart = rest.apart;
      room = omega (arith, c.remove-seat.ensures.capacity, old.room);
    }

pub returns-clause-out : goal.returns-clause-out
returns-clause-out g c =
    let old = c.args.self.now in
    let same = first_of old.seats.items c.remove-seat.new.self.items c.remove-seat.result (omega (arith, c.remove-seat.ensures.len, old.seats.ok.0)) c.remove-seat.ensures.value c.remove-seat.ensures.items in
    record {
      board = c.in-Ok.ensures;
      apart = first_apart (arc_value old.board).terms.seats c.remove-seat.result c.remove-seat.new.self.items (subst (AreSome (arc_value old.board).terms.seats) same record { below = old.below; apart = old.apart });
    }
