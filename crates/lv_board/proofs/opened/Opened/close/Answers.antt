-- Proof of `Opened::close`: returns the vector when all seats are there: the number of its last update, and its elements.
use Rattle.std.proofs.Common.{◌<◌, ◌≤◌, ◌≢◌, arith, length, map, refl, rules, sym, ap, ◌∙◌, subst}
use Rattle.std.specs.Prelude.{vec_capacity, All}
use Rattle.std.specs.Arc.{arc_value}
use Rattle.std.proofs.lemmas.Bool.{eq-eqb, eqb-true, false≢true}
use Rattle.std.proofs.lemmas.List.{length-map}
use Rattle.lv_board.specs.declared.board.Board.{Board}
use Rattle.lv_board.specs.Closing.{AreAt}
use Rattle.lv_board.specs.Rule.{terms_of}
use Rattle.lv_board.specs.Sharing.{shared_of}
use Rattle.lv_board.specs.Tells.{actor_of}
use Rattle.lv_board.proofs.Numbers.{seat_out, some_few}
use Rattle.lv_board.proofs.Sharings.{closed_shared}
use Rattle.lv_board.proofs.opened.Opened.close.Goals as goal

pub returns-in_default-clause-ok : goal.returns-in_default-clause-ok
returns-in_default-clause-ok g c = tt

pub returns-in_default-clause-err : goal.returns-in_default-clause-err
returns-in_default-clause-err g c = (refl, length-map c.args.self.seats.items actor_of ∙ eqb-true _ _ (sym c.is_whole.ensures ∙ c.if-not-is_whole.false))

pub returns-then-not-is_whole-clause-err : goal.returns-then-not-is_whole-clause-err
returns-then-not-is_whole-clause-err g c =
    let old = c.args.self in
    let long = length-map old.seats.items actor_of in
    let most = some_few (arc_value old.board).terms.seats old.seats.items record { below = old.below; apart = old.apart } in
    let differ : length old.seats.items ≢ (arc_value old.board).terms.seats = λ same. false≢true (sym (sym c.is_whole.ensures ∙ c.if-not-is_whole.true) ∙ eq-eqb (length old.seats.items) (arc_value old.board).terms.seats same) in
    (refl, seat_out (arc_value old.board).terms.seats (map actor_of old.seats.items) (omega (arith, long, most, differ)))

pub close_by-requires-clause-at : goal.close_by-requires-clause-at
close_by-requires-clause-at g c = λ _ _. subst (λ (b : Board g.row.B.Denot g.row.B-S.Denot). AreAt b.table.shared.table_id b.terms c.args.self.seats.items) (sym c.in-Ok-try_unwrap.ensures.ok) c.args.self.at

pub returns-in-Ok-try_unwrap-clause-ok : goal.returns-in-Ok-try_unwrap-clause-ok
returns-in-Ok-try_unwrap-clause-ok g c =
    let same = ap (λ (b : Board g.row.B.Denot g.row.B-S.Denot). terms_of g.B.BoardBody.folding b.terms) c.in-Ok-try_unwrap.ensures.ok in
    closed_shared (shared_of g.B.BoardBody.folding g.B.Single.the_kind g.B.Single.plain c.args.self) _ c.args.self.seats.items c.close_by.result same refl
    record { below = c.args.self.below; apart = c.args.self.apart }
    (eqb-true _ _ (sym c.is_whole.ensures ∙ c.if-not-is_whole.false)) c.close_by.ensures

pub invariant_of-result : goal.invariant_of-result
invariant_of-result g c = record {
  at = subst (λ board. AreAt (arc_value {X = Board g.row.B.Denot g.row.B-S.Denot} board).table.shared.table_id (arc_value {X = Board g.row.B.Denot g.row.B-S.Denot} board).terms c.args.self.seats.items) (sym c.in-Err.ensures.err) c.args.self.at;
  below = subst (λ board. All (λ s. (actor_of s).number < (arc_value {X = Board g.row.B.Denot g.row.B-S.Denot} board).terms.seats) c.args.self.seats.items) (sym c.in-Err.ensures.err) c.args.self.below;
  apart = c.args.self.apart;
  room = subst (λ board. (arc_value {X = Board g.row.B.Denot g.row.B-S.Denot} board).terms.seats ≤ vec_capacity c.args.self.seats) (sym c.in-Err.ensures.err) c.args.self.room;
}

pub returns-in-Ok-try_unwrap-clause-err : goal.returns-in-Ok-try_unwrap-clause-err
returns-in-Ok-try_unwrap-clause-err g c = tt

pub returns-in-Err-clause-ok : goal.returns-in-Err-clause-ok
returns-in-Err-clause-ok g c = tt

pub returns-in-Err-clause-err : goal.returns-in-Err-clause-err
returns-in-Err-clause-err g c = (search rules, length-map c.args.self.seats.items actor_of ∙ eqb-true _ _ (sym c.is_whole.ensures ∙ c.if-not-is_whole.false))
