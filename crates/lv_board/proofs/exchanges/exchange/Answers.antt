-- Proof of `exchange`: the compare-and-swap of the descriptor from the look to the descriptor after an update, at the seat's own table.
use Rattle.std.proofs.Common.{◌≡◌, ℕ, ◌∷◌, nat_eq, refl, ap, ◌∙◌, subst, arith}
use Rattle.std.specs.Prelude.{MatchBool}
use Rattle.std.proofs.lemmas.Bool.{eq-eqb, ne_eqb}
use Rattle.lv_edits.specs.declared.edit.Edit.{Edit}
use Rattle.lv_machine.specs.declared.moves.Move.TheVariants.{Exchange}
use Rattle.lv_machine.proofs.EndsLaws.{legal_earlier}
use Rattle.lv_board.specs.Rule.{terms_of}
use Rattle.lv_board.proofs.Exchanging.{accepted_as, exchanges_at_key, look_accepted, made_accepted, told_by, told_edit}
use Rattle.lv_board.proofs.Seating.{based_after, look_found, seat_after}
use Rattle.lv_board.proofs.exchanges.exchange.Goals as goal

pub compare_exchange-found-requires : goal.compare_exchange-found-requires
compare_exchange-found-requires g c = (
  c.requires.here,
  omega (arith, c.requires.count),
  exchanges_at_key g.B.BoardBody.folding c.args.seat.now.terms c.args.table.now.shared.key c.requires.key c.args.table.now.shared.table_id.slots c.args.seat.now.token.id c.args.seat.now.look c.args.new c.args.edit c.args.seat.now.token.me c.args.seat.now.sits c.args.seat.now.looks.shown c.requires.after c.requires.short c.requires.ready c.requires.free,
)

-- what the table's step guarantees, depending on what it found
told_true : (P Q : Type 0) (m n : ℕ) → m ≡ n → MatchBool (nat_eq m n) P Q → P
told_true P Q m n is told = subst (λ b. MatchBool b P Q) (eq-eqb m n is) told

told_false : (P Q : Type 0) (m n : ℕ) → ¬ (m ≡ n) → MatchBool (nat_eq m n) P Q → Q
told_false P Q m n apart told = subst (λ b. MatchBool b P Q) (ne_eqb m n apart) told

pub invariant_of-seat : goal.invariant_of-seat
invariant_of-seat g c =
    let told = c.compare_exchange-found.ensures.2 in
    let won = told_true _ _ c.compare_exchange-found.result c.args.seat.now.look c.if-found-old.true (told.1 c.args.seat.now.terms c.args.seat.now.based) in
    let as' = accepted_as (terms_of g.B.BoardBody.folding c.args.seat.now.terms) c.args.seat.now.token.me.0.actor c.compare_exchange-found.new.seat.me.0.actor c.args.seat.now.look c.args.new c.args.edit c.args.seat.now.looks.shown c.requires.after c.requires.short c.requires.free won in
    record {
      basis = c.args.seat.now.basis;
      sits = seat_after c.args.seat.now.token.me.0 c.compare_exchange-found.new.seat.me.0 c.compare_exchange-found.new.seat.me.0.actor told.0.1 c.args.seat.now.sits;
      based = based_after c.args.seat.now.token.me.0 c.compare_exchange-found.new.seat.me.0 c.args.seat.now.terms c.compare_exchange-found.new.seat.me.0.actor told.0.1 c.args.seat.now.based;
      slots = told.0.0 ∙ c.args.seat.now.slots;
      made = made_accepted (terms_of g.B.BoardBody.folding c.args.seat.now.terms) c.args.seat.now.token.me.0.actor c.compare_exchange-found.new.seat.me.0.actor c.args.edit c.args.seat.now.made as';
      looks = look_accepted (terms_of g.B.BoardBody.folding c.args.seat.now.terms) c.args.seat.now.token.me.0.actor c.compare_exchange-found.new.seat.me.0.actor c.args.seat.now.look c.args.new c.args.edit c.args.seat.now.looks.shown c.requires.after c.requires.short c.requires.free as';
    }

pub returns-then-found-old : goal.returns-then-found-old
returns-then-found-old g c =
    let told = c.compare_exchange-found.ensures.2 in
    let won = told_true _ _ c.compare_exchange-found.result c.args.seat.now.look c.if-found-old.true (told.1 c.args.seat.now.terms c.args.seat.now.based) in (
      record { table = c.compare_exchange-found.ensures.0; terms = refl },
      accepted_as (terms_of g.B.BoardBody.folding c.args.seat.now.terms) c.args.seat.now.token.me.0.actor c.compare_exchange-found.new.seat.me.0.actor c.args.seat.now.look c.args.new c.args.edit c.args.seat.now.looks.shown c.requires.after c.requires.short c.requires.free won,
      ap (λ v. v.moves) told.0.1 ∙ ap (λ (e : Edit). Exchange c.args.seat.now.token.me.0.actor.number e ∷ c.args.seat.now.token.me.0.moves)
          (told_edit (terms_of g.B.BoardBody.folding c.args.seat.now.terms) c.args.seat.now.token.me.0.actor c.compare_exchange-found.new.seat.me.0.actor c.args.seat.now.look c.args.new c.args.edit c.args.seat.now.looks.shown c.requires.after c.requires.short c.requires.free won),
    )

pub invariant_of-seat-2 : goal.invariant_of-seat-2
invariant_of-seat-2 g c =
    let told = c.compare_exchange-found.ensures.2 in
    let lost = told_false _ _ c.compare_exchange-found.result c.args.seat.now.look c.if-found-old.false (told.1 c.args.seat.now.terms c.args.seat.now.based) in
    record {
      basis = c.args.seat.now.basis;
      sits = seat_after c.args.seat.now.token.me.0 c.compare_exchange-found.new.seat.me.0 c.compare_exchange-found.new.seat.me.0.actor told.0.1 c.args.seat.now.sits;
      based = based_after c.args.seat.now.token.me.0 c.compare_exchange-found.new.seat.me.0 c.args.seat.now.terms c.compare_exchange-found.new.seat.me.0.actor told.0.1 c.args.seat.now.based;
      slots = told.0.0 ∙ c.args.seat.now.slots;
      made = lost.sees.made;
      looks = look_found g.B.BoardBody.folding c.args.seat.now.terms c.compare_exchange-found.new.seat.me.0.actor c.compare_exchange-found.result lost.sees;
    }

pub returns : goal.returns
returns g c =
    let told = c.compare_exchange-found.ensures.2 in
    let lost = told_false _ _ c.compare_exchange-found.result c.args.seat.now.look c.if-found-old.false (told.1 c.args.seat.now.terms c.args.seat.now.based) in
    let legal = legal_earlier (terms_of g.B.BoardBody.folding c.args.seat.now.terms) c.args.seat.now.token.me.0.actor.seen c.compare_exchange-found.new.seat.me.0.actor.seen lost.seen lost.sees.legal in (
      record { table = c.compare_exchange-found.ensures.0; terms = refl },
      lost,
      ap (λ v. v.moves) told.0.1 ∙ ap (λ (e : Edit). Exchange c.args.seat.now.token.me.0.actor.number e ∷ c.args.seat.now.token.me.0.moves)
          (told_by (terms_of g.B.BoardBody.folding c.args.seat.now.terms) c.args.seat.now.token.me.0.actor.seen c.args.seat.now.token.me.0.actor.number c.args.seat.now.look c.args.new c.args.edit lost.sees.terms legal lost.number c.args.seat.now.looks.shown c.requires.after c.requires.short c.requires.free),
    )
