-- Proof of `Board::help_mark`: completes the mark of the block of that cell.
use Rattle.std.proofs.Common.{rules, ◌≡◌, ◌/◌, true, refl, ap, ◌∙◌, arith}
use Rattle.lv_machine.specs.Layout.{mark_place}
use Rattle.lv_machine.specs.Words.{index_of}
use Rattle.lv_board.proofs.Keeping.{helps_mark_at_key}
use Rattle.lv_board.proofs.Seating.{based_after, block_among, made_same, same_look, seat_after}
use Rattle.lv_board.proofs.board.Board.help_mark.Goals as goal

pub fetch_max-requires : goal.fetch_max-requires
fetch_max-requires g c =
    let seat = c.args.seat.now in
    let look = c.args.seat.now.looks in
    let near = look.pending c.requires.pending in (
      c.requires.here.at,
      block_among c.args.seat.now.terms c.args.self.now.terms c.args.self.now.table.shared.table_id.words c.mark_place_of-at.result (index_of c.args.seat.now.look / 8) 8 c.requires.here.terms c.args.self.now.count (omega (arith, near)) (omega arith) (c.mark_place_of-at.ensures ∙ ap (λ i. mark_place (i / 8)) c.index_in.ensures.value),
      helps_mark_at_key g.B.BoardBody.folding c.args.self.now.terms c.args.self.now.table.shared.key c.args.self.now.key c.args.self.now.table.shared.table_id.slots c.args.seat.now.token.id c.args.seat.now.token.me c.args.seat.now.sits c.args.seat.now.look _ _ look.shown c.requires.pending (c.mark_place_of-at.ensures ∙ ap (λ i. mark_place (i / 8)) c.index_in.ensures.value) (search rules),
    )

pub invariant_of-seat : goal.invariant_of-seat
invariant_of-seat g c =
    let told = c.fetch_max.ensures.2 in
    let same : c.fetch_max.new.seat.me.0.actor.seen ≡ c.args.seat.now.token.me.0.actor.seen = ap (λ v. v.actor.seen) told.1 in
    record {
      basis = c.args.seat.now.basis;
      sits = seat_after c.args.seat.now.token.me.0 c.fetch_max.new.seat.me.0 (record (c.args.seat.now.token.me.0.actor) { marked = true }) told.1 c.args.seat.now.sits;
      based = based_after c.args.seat.now.token.me.0 c.fetch_max.new.seat.me.0 c.args.seat.now.terms (record (c.args.seat.now.token.me.0.actor) { marked = true }) told.1 c.args.seat.now.based;
      slots = told.0 ∙ c.args.seat.now.slots;
      made = made_same c.args.seat.now.token.me.0.actor c.fetch_max.new.seat.me.0.actor (ap (λ v. v.actor.number) told.1) (ap (λ v. v.actor.known) told.1) (ap (λ v. v.actor.own) told.1) c.args.seat.now.made;
      looks = same_look c.args.seat.now.terms.buckets c.args.seat.now.terms.edits c.args.seat.now.look c.args.seat.now.token.me.0.actor.seen c.fetch_max.new.seat.me.0.actor.seen same c.args.seat.now.looks;
    }

pub returns : goal.returns
returns g c = record {
  stays = record { table = c.fetch_max.ensures.0; terms = refl };
  look = refl;
  actor = ap (λ v. v.actor) c.fetch_max.ensures.2.1;
  moves = ap (λ v. v.moves) c.fetch_max.ensures.2.1;
}
