-- Proof of `Board::new`: a board with no updates, and its seats.
use Rattle.std.proofs.Common.{ℕ, [], inr, refl, sym, ap, ◌∙◌, arith}
use Rattle.atomic_table.specs.Table.{Me}
use Rattle.lv_board.specs.declared.actors.Basis.{Basis}
use Rattle.lv_board.specs.declared.actors.View.{View}
use Rattle.lv_board.specs.TableRule.{dealer_from}
use Rattle.lv_board.proofs.Ordered.{dealt_order}
use Rattle.lv_board.proofs.board.Board.new.Goals as goal

pub returns-then-buckets-gt9-clause-allowed : goal.returns-then-buckets-gt9-clause-allowed
returns-then-buckets-gt9-clause-allowed g c = tt

pub returns-then-buckets-gt9-clause-basis : goal.returns-then-buckets-gt9-clause-basis
returns-then-buckets-gt9-clause-basis g c = tt

pub returns-then-buckets-gt9-clause-count : goal.returns-then-buckets-gt9-clause-count
returns-then-buckets-gt9-clause-count g c = tt

pub returns-then-buckets-gt9-clause-dealt : goal.returns-then-buckets-gt9-clause-dealt
returns-then-buckets-gt9-clause-dealt g c = tt

pub returns-then-buckets-gt9-clause-order : goal.returns-then-buckets-gt9-clause-order
returns-then-buckets-gt9-clause-order g c = tt

pub returns-in_default-clause-allowed : goal.returns-in_default-clause-allowed
returns-in_default-clause-allowed g c = tt

pub returns-in_default-clause-basis : goal.returns-in_default-clause-basis
returns-in_default-clause-basis g c = tt

pub returns-in_default-clause-count : goal.returns-in_default-clause-count
returns-in_default-clause-count g c = tt

pub returns-in_default-clause-dealt : goal.returns-in_default-clause-dealt
returns-in_default-clause-dealt g c = tt

pub returns-in_default-clause-order : goal.returns-in_default-clause-order
returns-in_default-clause-order g c = tt

pub returns-in_default-clause-err : goal.returns-in_default-clause-err
returns-in_default-clause-err g c = inr (record { few_seats = omega (arith, c.if-seats-gt8.false); some_seats = omega (arith, c.if-seats-eq0.false); few_buckets = omega (arith, c.if-buckets-gt9.false, c.buckets.ensures.value) }, refl)

pub returns-in_default-lay-clause-allowed : goal.returns-in_default-lay-clause-allowed
returns-in_default-lay-clause-allowed g c = tt

pub returns-in_default-lay-clause-basis : goal.returns-in_default-lay-clause-basis
returns-in_default-lay-clause-basis g c = tt

pub returns-in_default-lay-clause-count : goal.returns-in_default-lay-clause-count
returns-in_default-lay-clause-count g c = tt

pub returns-in_default-lay-clause-dealt : goal.returns-in_default-lay-clause-dealt
returns-in_default-lay-clause-dealt g c = tt

pub returns-in_default-lay-clause-order : goal.returns-in_default-lay-clause-order
returns-in_default-lay-clause-order g c = tt

pub returns-in_default-lay-clause-err : goal.returns-in_default-lay-clause-err
returns-in_default-lay-clause-err g c = inr (record { few_seats = omega (arith, c.if-seats-gt8.false); some_seats = omega (arith, c.if-seats-eq0.false); few_buckets = omega (arith, c.if-buckets-gt9.false, c.buckets.ensures.value) }, refl)

pub deal_all-requires-clause-here : goal.deal_all-requires-clause-here
deal_all-requires-clause-here g c = λ _ _. c.in-Ok-lay.ensures.1

pub deal_all-requires-clause-deals : goal.deal_all-requires-clause-deals
deal_all-requires-clause-deals g c = λ _ _.
    let me : Basis g.row.B.Denot → Me (Unit {0}) (View g.row.B.Denot) = λ z. (dealer_from z 0, []) in
    c.in-Ok-lay.ensures.2 ∙ ap me (sym c.in-Ok-lay.ensures.0)

pub deal_all-requires-clause-none : goal.deal_all-requires-clause-none
deal_all-requires-clause-none g c = λ _ _. c.in-Ok.ensures.items

pub deal_all-requires-clause-room : goal.deal_all-requires-clause-room
deal_all-requires-clause-room g c = λ _ _. omega (arith, ap (λ (z : Basis g.row.B.Denot). z.seats) c.in-Ok-lay.ensures.0, c.in-Ok.ensures.capacity)

pub returns-clause-allowed : goal.returns-clause-allowed
returns-clause-allowed g c = record { few_seats = omega (arith, c.if-seats-gt8.false); some_seats = omega (arith, c.if-seats-eq0.false); few_buckets = omega (arith, c.if-buckets-gt9.false, c.buckets.ensures.value) }

pub returns-clause-basis : goal.returns-clause-basis
returns-clause-basis g c =
    let basis : ℕ → ℕ → Basis g.row.B.Denot = λ buckets edits. record { buckets = buckets; edits = edits; seats = c.args.seats; body = c.args.body } in
    c.in-Ok-lay.ensures.0 ∙ ap (λ b. basis b c.edits.result) c.buckets-2.ensures.value ∙ ap (basis c.args.limits.buckets) c.edits.ensures.value

pub returns-clause-count : goal.returns-clause-count
returns-clause-count g c = c.deal_all.ensures.count ∙ ap (λ (z : Basis g.row.B.Denot). z.seats) c.in-Ok-lay.ensures.0

pub returns-clause-dealt : goal.returns-clause-dealt
returns-clause-dealt g c = c.deal_all.ensures.dealt

pub returns-clause-order : goal.returns-clause-order
returns-clause-order g c = dealt_order _ _ _ c.deal_all.ensures.count c.deal_all.ensures.dealt

pub returns-clause-err : goal.returns-clause-err
returns-clause-err g c = tt
