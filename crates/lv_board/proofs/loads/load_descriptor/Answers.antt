-- Proof of `load_descriptor`: loads the descriptor of the seat's own table, which becomes the look.
use Rattle.std.proofs.Common.{refl, sym, ap, ◌∙◌, subst, arith}
use mathlib.Core.Option.{none}
use Rattle.atomic_table.specs.Table.{Allows, step}
use Rattle.lv_board.specs.Plays.{Looks}
use Rattle.lv_board.specs.TableRule.{TableHolds}
use Rattle.lv_board.proofs.Keeping.{looks_allowed}
use Rattle.lv_board.proofs.Seating.{based_after, look_found, seat_after}
use Rattle.lv_board.proofs.loads.load_descriptor.Goals as goal

pub load-seat-requires : goal.load-seat-requires
load-seat-requires g c = (
  c.requires.here,
  omega (arith, c.requires.count),
  subst (λ k. Allows (TableHolds g.B.BoardBody.folding k) c.args.table.now.shared.table_id.slots c.args.seat.now.token.id c.args.seat.now.token.me 0 (λ n. n) (Looks g.B.BoardBody.folding (step c.args.table.now.shared.table_id.slots 0 0 0 none) c.args.seat.now.token.me)) (sym c.requires.key)
      (looks_allowed g.B.BoardBody.folding c.args.seat.now.terms _ _ _ c.args.seat.now.sits),
)

pub invariant_of-seat : goal.invariant_of-seat
invariant_of-seat g c =
    let told = c.load-seat.ensures.2 in
    record {
      basis = c.args.seat.now.basis;
      sits = seat_after c.args.seat.now.token.me.0 c.load-seat.new.seat.me.0 c.load-seat.new.seat.me.0.actor told.0.1 c.args.seat.now.sits;
      based = based_after c.args.seat.now.token.me.0 c.load-seat.new.seat.me.0 c.args.seat.now.terms c.load-seat.new.seat.me.0.actor told.0.1 c.args.seat.now.based;
      slots = told.0.0 ∙ c.args.seat.now.slots;
      made = (told.2 c.args.seat.now.terms c.args.seat.now.based).made;
      looks = look_found g.B.BoardBody.folding c.args.seat.now.terms c.load-seat.new.seat.me.0.actor c.load-seat.result (told.2 c.args.seat.now.terms c.args.seat.now.based);
    }

pub returns : goal.returns
returns g c =
    let told = c.load-seat.ensures.2 in
    record {
      stays = record { table = c.load-seat.ensures.0; terms = refl };
      quiet = told.1;
      sees = told.2 c.args.seat.now.terms c.args.seat.now.based;
      moves = ap (λ v. v.moves) told.0.1;
    }
