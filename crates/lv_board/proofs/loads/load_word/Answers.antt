-- Proof of `load_word`: loads another word of that table.
use Rattle.std.proofs.Common.{refl, sym, ap, subst, arith}
use mathlib.Core.Option.{none}
use Rattle.atomic_table.specs.Table.{Allows, step}
use Rattle.lv_board.specs.Plays.{Reads}
use Rattle.lv_board.specs.TableRule.{TableHolds}
use Rattle.lv_board.proofs.Keeping.{reads_allowed}
use Rattle.lv_board.proofs.Seating.{made_after, same_look}
use Rattle.lv_board.proofs.loads.load_word.Goals as goal

pub load-requires : goal.load-requires
load-requires g c = (
  c.requires.here,
  omega (arith, c.requires.count, c.requires.within),
  subst (λ k. Allows (TableHolds g.B.BoardBody.folding k) c.args.table.now.shared.table_id.slots c.args.seat.now.token.id c.args.seat.now.token.me c.args.at (λ n. n) (Reads g.B.BoardBody.folding (step c.args.table.now.shared.table_id.slots c.args.at 0 0 none) c.args.seat.now.token.me)) (sym c.requires.key)
      (reads_allowed g.B.BoardBody.folding c.args.seat.now.terms _ _ _ _ c.args.seat.now.sits),
)

pub invariant_of-seat-clause-made : goal.invariant_of-seat-clause-made
invariant_of-seat-clause-made g c =
    let told = c.load.ensures.2.1 c.args.seat.now.terms c.args.seat.now.based in
    made_after c.args.seat.now.token.me.0.actor c.load.new.seat.me.0.actor told.quiet c.args.seat.now.made

pub invariant_of-seat-clause-looks : goal.invariant_of-seat-clause-looks
invariant_of-seat-clause-looks g c =
    let told = c.load.ensures.2.1 c.args.seat.now.terms c.args.seat.now.based in
    same_look c.args.seat.now.terms.buckets c.args.seat.now.terms.edits c.args.seat.now.look c.args.seat.now.token.me.0.actor.seen c.load.new.seat.me.0.actor.seen (ap (λ y. y.seen) told.rest) c.args.seat.now.looks

pub returns : goal.returns
returns g c = record {
  stays = record { table = c.load.ensures.0; terms = refl };
  look = refl;
  read = c.load.ensures.2.1 c.args.seat.now.terms c.args.seat.now.based;
  moves = ap (λ v. v.moves) c.load.ensures.2.0.1;
}
