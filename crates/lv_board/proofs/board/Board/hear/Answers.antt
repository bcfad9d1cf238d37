-- Proof of `Board::hear`: reads a note, and looks.
use Rattle.std.proofs.Common.{ap, ◌∙◌, ◌∷◌, arith, subst, sym}
use Rattle.lv_machine.specs.declared.moves.Move.TheVariants.{Look}
use Rattle.lv_machine.specs.History.{Ends}
use Rattle.lv_board.proofs.Calling.{has_looked, quiet_same, quiet_then}
use Rattle.lv_board.proofs.Keeping.{looks_at_key}
use Rattle.lv_board.proofs.Opens.{informs_at_key}
use Rattle.lv_board.proofs.Seating.{based_after, look_found, seat_after}
use Rattle.lv_board.proofs.board.Board.hear.Goals as goal

pub join_seat-requires : goal.join_seat-requires
join_seat-requires g c = (
  c.requires.here.at,
  c.requires.table,
  c.requires.slots,
  omega (arith, c.args.self.now.count),
  informs_at_key (Unit {0}) g.B.BoardBody.folding c.args.self.now.terms c.args.self.now.table.shared.key c.args.seat.now.token.id c.args.seat.now.token.me.0 c.args.note.id c.args.note.me.0 c.args.self.now.key c.args.seat.now.sits,
)

pub load-seat-requires : goal.load-seat-requires
load-seat-requires g c =
    let view = ap (λ m. m.0) c.join_seat.ensures.2 in (
      c.join_seat.ensures.0 ∙ c.requires.here.at,
      omega (arith, c.args.self.now.count),
      looks_at_key g.B.BoardBody.folding c.args.self.now.terms c.args.self.now.table.shared.key c.args.self.now.key c.args.self.now.table.shared.table_id.slots c.join_seat.new.seat.id c.join_seat.new.seat.me
          (seat_after c.args.seat.now.token.me.0 c.join_seat.new.seat.me.0 (record (c.args.seat.now.token.me.0.actor) { told = c.args.note.me.0.actor.known }) view c.args.seat.now.sits),
    )

pub invariant_of-seat : goal.invariant_of-seat
invariant_of-seat g c =
    let view = ap (λ m. m.0) c.join_seat.ensures.2 in
    let slots = ap (λ m. m.1) c.join_seat.ensures.2 in
    let told = c.load-seat.ensures.2 in
    let sits = seat_after c.args.seat.now.token.me.0 c.join_seat.new.seat.me.0 (record (c.args.seat.now.token.me.0.actor) { told = c.args.note.me.0.actor.known }) view c.args.seat.now.sits in
    let based = based_after c.args.seat.now.token.me.0 c.join_seat.new.seat.me.0 c.args.seat.now.terms (record (c.args.seat.now.token.me.0.actor) { told = c.args.note.me.0.actor.known }) view c.args.seat.now.based in
    record {
      basis = c.args.seat.now.basis;
      sits = seat_after c.join_seat.new.seat.me.0 c.load-seat.new.seat.me.0 c.load-seat.new.seat.me.0.actor told.0.1 sits;
      based = based_after c.join_seat.new.seat.me.0 c.load-seat.new.seat.me.0 c.args.seat.now.terms c.load-seat.new.seat.me.0.actor told.0.1 based;
      slots = told.0.0 ∙ slots ∙ c.args.seat.now.slots;
      made = (told.2 c.args.seat.now.terms based).made;
      looks = look_found g.B.BoardBody.folding c.args.seat.now.terms c.load-seat.new.seat.me.0.actor c.load-seat.result (told.2 c.args.seat.now.terms based);
    }

pub returns-clause-looked : goal.returns-clause-looked
returns-clause-looked g c =
    let view = ap (λ m. m.0) c.join_seat.ensures.2 in
    let told = c.load-seat.ensures.2 in
    let based = based_after c.args.seat.now.token.me.0 c.join_seat.new.seat.me.0 c.args.seat.now.terms (record (c.args.seat.now.token.me.0.actor) { told = c.args.note.me.0.actor.known }) view c.args.seat.now.based in
    let heard = quiet_same c.args.seat.now.token.me.0.actor c.join_seat.new.seat.me.0.actor (ap (λ v. v.actor.number) view) (ap (λ v. v.actor.known) view) (ap (λ v. v.actor.own) view) in
    has_looked g.B.BoardBody.folding c.args.seat.now.terms c.args.self.now.terms c.args.seat.now.token.me.0.actor c.load-seat.new.seat.me.0.actor c.load-seat.result c.requires.here.terms
    (quiet_then c.args.seat.now.token.me.0.actor c.join_seat.new.seat.me.0.actor c.load-seat.new.seat.me.0.actor heard told.1) (told.2 c.args.seat.now.terms based)

pub returns-clause-told : goal.returns-clause-told
returns-clause-told g c =
    let view = ap (λ m. m.0) c.join_seat.ensures.2 in
    let told = c.load-seat.ensures.2 in
    let based = based_after c.args.seat.now.token.me.0 c.join_seat.new.seat.me.0 c.args.seat.now.terms (record (c.args.seat.now.token.me.0.actor) { told = c.args.note.me.0.actor.known }) view c.args.seat.now.based in
    subst (λ h. Ends c.args.note.me.0.actor.known h) (sym (told.2 c.args.seat.now.terms based).all)
    (subst (λ h. Ends h c.load-seat.new.seat.me.0.actor.known) (ap (λ v. v.actor.told) view) told.3)

pub returns-clause-moves : goal.returns-clause-moves
returns-clause-moves g c =
    let view = ap (λ m. m.0) c.join_seat.ensures.2 in
    ap (λ v. v.moves) c.load-seat.ensures.2.0.1 ∙ ap (λ v. Look v.actor.number ∷ v.moves) view
