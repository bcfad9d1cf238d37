-- Proof of `Board::gather`: merges seats into one token, whose view has their actors in the order of the seats.
use Rattle.std.proofs.Common.{ap, ◌∙◌, ◌++◌, ◌∷◌, [], map, arith}
use Rattle.std.specs.Prelude.{Some}
use Rattle.std.proofs.lemmas.List.Elements.{All-pop}
use Rattle.lv_board.specs.Tells.{actor_of, IsAt}
use Rattle.lv_board.proofs.Closes.{gathered_more, gathers_at_key}
use Rattle.lv_board.proofs.board.Board.gather.Goals as goal

pub join_seat-requires : goal.join_seat-requires
join_seat-requires g c =
    let inv = c.loop-seat.invariant in
    let here = (All-pop (IsAt c.args.self.now.table.shared.table_id c.args.self.now.terms) c.loop-seat.seats.items c.pop.new.self.items (Some c.in-Some.seat) c.in-Some.ensures.items inv.at).1 in (
      here.at,
      inv.table,
      inv.slots,
      omega (arith, c.args.self.now.count),
      gathers_at_key (Unit {0}) g.B.BoardBody.folding c.args.self.now.terms c.args.self.now.table.shared.key c.in-Some.seat.token.id c.in-Some.seat.token.me.0 c.loop-seat.gathered.id c.loop-seat.gathered.me.0 c.args.self.now.key inv.sits,
    )

pub loop-seat-preserved : goal.loop-seat-preserved
loop-seat-preserved g c =
    let inv = c.loop-seat.invariant in
    let popped = All-pop (IsAt c.args.self.now.table.shared.table_id c.args.self.now.terms) c.loop-seat.seats.items c.pop.new.self.items (Some c.in-Some.seat) c.in-Some.ensures.items inv.at in
    let joined = c.join_seat.ensures in
    record {
      table = joined.0 ∙ popped.1.at;
      slots = ap (λ m. m.1) joined.2 ∙ c.in-Some.seat.slots;
      sits = ap (λ m. m.0.sits) joined.2 ∙ c.in-Some.seat.sits.sits;
      at = popped.0;
      actors = gathered_more c.loop-seat.seats.items c.pop.new.self.items c.in-Some.seat c.loop-seat.gathered.me.0 c.join_seat.new.seat.me.0 (map actor_of (c.args.seats.items ++ c.args.last ∷ [])) c.in-Some.ensures.items c.in-Some.seat.sits.more (ap (λ m. m.0) joined.2) inv.actors;
    }
