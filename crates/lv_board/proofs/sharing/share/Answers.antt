-- Proof of `share`: a board and its seats, to be shared.
use Rattle.std.proofs.Common.{◌<◌, ◌≤◌, refl, sym, subst, arith}
use Rattle.std.specs.Prelude.{vec_capacity, All}
use Rattle.lv_board.specs.declared.board.Board.{Board}
use Rattle.lv_board.specs.Closing.{AreAt}
use Rattle.lv_board.specs.Tells.{actor_of}
use Rattle.lv_board.proofs.Ordered.{order_some}
use Rattle.lv_board.proofs.sharing.share.Goals as goal

pub invariant_of-result : goal.invariant_of-result
invariant_of-result g c = record {
  at = subst (λ (b : Board g.row.B.Denot g.row.B-S.Denot). AreAt b.table.shared.table_id b.terms c.args.seats.items) (sym c.in-Ok.ensures.ok) (λ k d within. (c.requires.order.each k d within).0);
  below = subst (λ (b : Board g.row.B.Denot g.row.B-S.Denot). All (λ s. (actor_of s).number < b.terms.seats) c.args.seats.items) (sym c.in-Ok.ensures.ok) (order_some c.args.board.table.shared.table_id c.args.board.terms c.args.seats.items c.requires.order).below;
  apart = (order_some c.args.board.table.shared.table_id c.args.board.terms c.args.seats.items c.requires.order).apart;
  room = subst (λ (b : Board g.row.B.Denot g.row.B-S.Denot). b.terms.seats ≤ vec_capacity c.args.seats) (sym c.in-Ok.ensures.ok) (omega (arith, c.args.seats.ok.0, c.args.seats.ok.1, c.requires.order.count));
}

pub returns-in-Err-clause-ok : goal.returns-in-Err-clause-ok
returns-in-Err-clause-ok g c = tt

pub returns-in-Err-clause-err : goal.returns-in-Err-clause-err
returns-in-Err-clause-err g c = refl

pub returns-in-Ok-clause-ok : goal.returns-in-Ok-clause-ok
returns-in-Ok-clause-ok g c = (c.in-Ok.ensures.ok, refl, refl)

pub returns-in-Ok-clause-err : goal.returns-in-Ok-clause-err
returns-in-Ok-clause-err g c = tt
