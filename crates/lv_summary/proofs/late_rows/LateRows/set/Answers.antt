-- Proof of `LateRows::set`: puts an item at a number; blanks before it in its piece that were never written are written first.
use Rattle.std.proofs.Common.{◌-◌, ◌/◌, ◌<◌, ◌∙◌, ap, arith, length, length-set, slice_set, vec_capacity}
use Rattle.lv_summary.specs.Inner.{item_at}
use Rattle.lv_summary.proofs.ByNumber.{by_number-set, still_blank}
use Rattle.lv_summary.proofs.LateLaws.{length-in_pieces, piece_there, set_early, set_late}
use Rattle.lv_summary.proofs.late_rows.LateRows.set.Goals as goal

pub set_front-requires-clause-inside : goal.set_front-requires-clause-inside
set_front-requires-clause-inside g c =
    omega (arith, length-in_pieces c.self.inside.front.items c.self.inside.later.items c.self.inside.blank c.self.inside.count, ap (λ of. length of.items) c.self.view_is)

pub set_front-requires-clause-few : goal.set_front-requires-clause-few
set_front-requires-clause-few g c = c.self.invariant.1

pub index_mut-requires : goal.index_mut-requires
index_mut-requires g c =
    let inside : c.args.number < c.self.inside.count = omega (arith, length-in_pieces c.self.inside.front.items c.self.inside.later.items c.self.inside.blank c.self.inside.count, ap (λ of. length of.items) c.self.view_is) in
    let there : c.args.number / 512 - 1 < length c.self.inside.later.items = piece_there c.self.inside.count (vec_capacity c.self.inside.front) (length c.self.inside.later.items) c.args.number c.self.invariant.0 inside c.if-number-lt-PIECE.false in
    omega arith

pub invariant_of-self-else-number-lt-PIECE : goal.invariant_of-self-else-number-lt-PIECE
invariant_of-self-else-number-lt-PIECE g c =
    let front = c.self.inside.front.items in
    let later = c.self.inside.later.items in
    let count = c.self.inside.count in
    let blank = c.self.inside.blank in
    let place = c.args.number / 512 - 1 in
    let inside : c.args.number < count = omega (arith, length-in_pieces front later blank count, ap (λ of. length of.items) c.self.view_is) in
    let there : place < length later = piece_there count (vec_capacity c.self.inside.front) (length later) c.args.number c.self.invariant.0 inside c.if-number-lt-PIECE.false in (
      rw (length-set later place c.set.new.self) c.self.invariant.0,
      c.self.invariant.1,
      c.self.invariant.2,
      still_blank (item_at front later blank) (item_at front (slice_set later place c.set.new.self) blank) blank count c.args.number c.args.s inside (set_late front c.index_mut.result.now c.set.new.self later blank c.args.number c.args.s c.if-number-lt-PIECE.false there c.index_mut.ensures.value c.set.ensures) c.self.invariant.3,
    )

pub returns-then-number-lt-PIECE-clause-items : goal.returns-then-number-lt-PIECE-clause-items
returns-then-number-lt-PIECE-clause-items g c =
    let front = c.self.inside.front.items in
    let later = c.self.inside.later.items in
    let count = c.self.inside.count in
    let blank = c.self.inside.blank in
    let inside : c.args.number < count = omega (arith, length-in_pieces front later blank count, ap (λ of. length of.items) c.self.view_is) in
    by_number-set (item_at front later blank) (item_at c.set_front.new.front.items later blank) blank count c.args.number c.args.s inside (set_early front c.set_front.new.front.items later blank c.args.number c.args.s c.if-number-lt-PIECE.true c.set_front.ensures.items)
    ∙ ap (λ of. slice_set of.items c.args.number c.args.s) c.self.view_is

pub returns-else-number-lt-PIECE-clause-items : goal.returns-else-number-lt-PIECE-clause-items
returns-else-number-lt-PIECE-clause-items g c =
    let front = c.self.inside.front.items in
    let later = c.self.inside.later.items in
    let count = c.self.inside.count in
    let blank = c.self.inside.blank in
    let place = c.args.number / 512 - 1 in
    let inside : c.args.number < count = omega (arith, length-in_pieces front later blank count, ap (λ of. length of.items) c.self.view_is) in
    let there : place < length later = piece_there count (vec_capacity c.self.inside.front) (length later) c.args.number c.self.invariant.0 inside c.if-number-lt-PIECE.false in
    rw (← c.self.view_is) (
    by_number-set (item_at front later blank) (item_at front (slice_set later place c.set.new.self) blank) blank count c.args.number c.args.s inside
    (set_late front c.index_mut.result.now c.set.new.self later blank c.args.number c.args.s c.if-number-lt-PIECE.false there c.index_mut.ensures.value c.set.ensures))
