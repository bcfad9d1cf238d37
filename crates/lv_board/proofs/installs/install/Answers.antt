-- Proof of `install`: installs a part of the aggregate of a block that is full as the seat sees it, at the seat's own table.
use Rattle.std.proofs.Common.{◌≡◌, ℕ, ◌+◌, ◌-◌, ◌<◌, List, ◌∷◌, refl, sym, ap, ◌∙◌, arith}
use Rattle.lv_machine.specs.declared.moves.Move.TheVariants.{Install}
use Rattle.lv_machine.specs.Layout.{block_at, row_at}
use Rattle.lv_board.specs.declared.actors.Actor.{Actor}
use Rattle.lv_board.specs.declared.actors.InstalledPart.{InstalledPart}
use Rattle.lv_board.proofs.Seated.{install_at}
use Rattle.lv_board.proofs.Keeping.{installs_at_key}
use Rattle.lv_board.proofs.Seating.{based_after, block_among, made_same, same_look, seat_after}
use Rattle.lv_board.proofs.installs.install.Goals as goal

pub part_place_of-requires : goal.part_place_of-requires
part_place_of-requires g c = omega (arith, c.requires.part, g.B.Parted.some.1)

pub fetch_max-requires : goal.fetch_max-requires
fetch_max-requires g c =
    let keeps = (g.met.B.BoardBody g.world.𝓛 g.world.𝓜 g.world.𝓡 ((λ s x. x), (λ p. p), (λ n s. n s), (λ p. p))).keeps_parts in
    let among : c.args.part < (g.B.BoardBody.folding c.args.seat.now.terms.body).parts = omega (arith, c.requires.part, ap (λ f. (f c.args.seat.now.terms.body).parts) keeps) in (
      c.requires.here,
      block_among c.args.seat.now.terms c.args.seat.now.terms c.args.table.now.shared.table_id.words c.part_place_of.result c.args.b (9 + c.args.part) refl c.requires.count c.requires.within (omega (arith, c.requires.part, g.B.Parted.some.1)) c.part_place_of.ensures,
      installs_at_key g.B.BoardBody.folding c.args.seat.now.terms c.args.table.now.shared.key c.requires.key c.args.table.now.shared.table_id.slots c.args.seat.now.token.id c.args.seat.now.token.me c.args.seat.now.sits c.args.b c.args.part c.part_place_of.result c.args.word (omega (arith, c.requires.within)) among c.requires.whole c.requires.word c.part_place_of.ensures,
    )

pub invariant_of-seat : goal.invariant_of-seat
invariant_of-seat g c =
    let told = c.fetch_max.ensures.2 in
    let put : InstalledPart = record { place = c.part_place_of.result; word = c.args.word } in
    let x : Actor = record (c.args.seat.now.token.me.0.actor) { installed = put ∷ c.args.seat.now.token.me.0.actor.installed } in
    let same : c.fetch_max.new.seat.me.0.actor.seen ≡ c.args.seat.now.token.me.0.actor.seen = ap (λ v. v.actor.seen) told.1 in
    record {
      basis = c.args.seat.now.basis;
      sits = seat_after c.args.seat.now.token.me.0 c.fetch_max.new.seat.me.0 x told.1 c.args.seat.now.sits;
      based = based_after c.args.seat.now.token.me.0 c.fetch_max.new.seat.me.0 c.args.seat.now.terms x told.1 c.args.seat.now.based;
      slots = told.0 ∙ c.args.seat.now.slots;
      made = made_same c.args.seat.now.token.me.0.actor c.fetch_max.new.seat.me.0.actor (ap (λ v. v.actor.number) told.1) (ap (λ v. v.actor.known) told.1) (ap (λ v. v.actor.own) told.1) c.args.seat.now.made;
      looks = same_look c.args.seat.now.terms.buckets c.args.seat.now.terms.edits c.args.seat.now.look c.args.seat.now.token.me.0.actor.seen c.fetch_max.new.seat.me.0.actor.seen same c.args.seat.now.looks;
    }

pub returns-clause-installed : goal.returns-clause-installed
returns-clause-installed g c =
    let put : ℕ → List InstalledPart = λ at. record { place = at; word = c.args.word } ∷ c.args.seat.now.token.me.0.actor.installed in
    record {
      stays = record { table = c.fetch_max.ensures.0; terms = refl };
      look = refl;
      actor = ap (λ v. v.actor) c.fetch_max.ensures.2.1 ∙ ap (λ at. record (c.args.seat.now.token.me.0.actor) { installed = put at }) c.part_place_of.ensures;
    }

pub returns-clause-moves : goal.returns-clause-moves
returns-clause-moves g c =
    ap (λ v. v.moves) c.fetch_max.ensures.2.1
    ∙ ap (λ at. Install c.args.seat.now.token.me.0.actor.number (block_at at) (row_at at - 9) c.args.word ∷ c.args.seat.now.token.me.0.moves) c.part_place_of.ensures
    ∙ ap (λ m. m ∷ c.args.seat.now.token.me.0.moves) (sym (install_at c.args.seat.now.token.me.0.actor.number c.args.b c.args.part c.args.word (omega (arith, c.requires.part, g.B.Parted.some.1))))
