-- Proof of `LateRows::adopt`: puts a whole piece of items in the place of those from a number on, by taking their memory: none is copied.
use Rattle.std.proofs.Common.{◌+◌, ◌-◌, ◌/◌, ◌<◌, ◌≤◌, ◌≡◌, ap, arith, length, length-set, slice_set, subst, vec_capacity, List}
use Rattle.lv_summary.specs.Inner.{HasPart, in_pieces}
use Rattle.lv_summary.proofs.LateLaws.{length-in_pieces, piece_there}
use Rattle.lv_summary.proofs.RunLaws.{blank_early, blank_late, part_early, part_late, room_early}
use Rattle.lv_summary.proofs.late_rows.LateRows.adopt.Goals as goal

pub invariant_of-self : goal.invariant_of-self
invariant_of-self g c =
    let front = c.self.inside.front.items in
    let later = c.self.inside.later.items in
    let count = c.self.inside.count in
    let blank = c.self.inside.blank in
    let part = c.args.items.now in
    let fits : c.args.first + 512 ≤ count = omega (arith, c.requires.inside, length-in_pieces front later blank count, ap (λ of. length of.items) c.self.view_is) in
    let long : length part.items ≡ 512 = c.requires.whole in
    let room : 512 ≤ vec_capacity part = omega (arith, long, part.ok.0, part.ok.1) in
    rw c.swap.ensures.x_after (
      room_early count (vec_capacity c.self.inside.front) (vec_capacity part) (length later) c.args.first c.self.invariant.0 fits room,
      omega (arith, long, fits),
      c.self.invariant.2,
      blank_early front part.items later blank count c.args.first fits c.self.invariant.3,
    )

pub index_mut-requires : goal.index_mut-requires
index_mut-requires g c =
    let front = c.self.inside.front.items in
    let later = c.self.inside.later.items in
    let count = c.self.inside.count in
    let inside : c.args.first < count = omega (arith, c.requires.inside, length-in_pieces front later c.self.inside.blank count, ap (λ of. length of.items) c.self.view_is) in
    let there : c.args.first / 512 - 1 < length later = piece_there count (vec_capacity c.self.inside.front) (length later) c.args.first c.self.invariant.0 inside c.if-first-lt-PIECE.false in
    omega arith

pub invariant_of-self-else-first-lt-PIECE : goal.invariant_of-self-else-first-lt-PIECE
invariant_of-self-else-first-lt-PIECE g c =
    let front = c.self.inside.front.items in
    let later = c.self.inside.later.items in
    let count = c.self.inside.count in
    let blank = c.self.inside.blank in
    let place = c.args.first / 512 - 1 in
    let piece = c.swap-else-first-lt-PIECE.new.self in
    let fits : c.args.first + 512 ≤ count = omega (arith, c.requires.inside, length-in_pieces front later blank count, ap (λ of. length of.items) c.self.view_is) in (
      rw (length-set later place piece) c.self.invariant.0,
      c.self.invariant.1,
      c.self.invariant.2,
      blank_late front piece later blank count c.args.first c.requires.aligned fits c.if-first-lt-PIECE.false c.self.invariant.3,
    )

pub returns-then-first-lt-PIECE-clause-items : goal.returns-then-first-lt-PIECE-clause-items
returns-then-first-lt-PIECE-clause-items g c =
    let front = c.self.inside.front.items in
    let later = c.self.inside.later.items in
    let count = c.self.inside.count in
    let blank = c.self.inside.blank in
    let part = c.args.items.now in
    let fits : c.args.first + 512 ≤ count = omega (arith, c.requires.inside, length-in_pieces front later blank count, ap (λ of. length of.items) c.self.view_is) in
    rw c.swap.ensures.x_after (
    subst (λ (xs : List g.row.S.Denot). HasPart xs (in_pieces part.items later blank count) c.args.first part.items) (ap (λ of. of.items) c.self.view_is)
    (part_early front part.items later blank count c.args.first c.requires.whole c.requires.aligned fits c.if-first-lt-PIECE.true))

pub returns-else-first-lt-PIECE-clause-items : goal.returns-else-first-lt-PIECE-clause-items
returns-else-first-lt-PIECE-clause-items g c =
    let front = c.self.inside.front.items in
    let later = c.self.inside.later.items in
    let count = c.self.inside.count in
    let blank = c.self.inside.blank in
    let place = c.args.first / 512 - 1 in
    let part = c.args.items.now.items in
    let inside : c.args.first < count = omega (arith, c.requires.inside, length-in_pieces front later blank count, ap (λ of. length of.items) c.self.view_is) in
    let fits : c.args.first + 512 ≤ count = omega (arith, c.requires.inside, length-in_pieces front later blank count, ap (λ of. length of.items) c.self.view_is) in
    let there : place < length later = piece_there count (vec_capacity c.self.inside.front) (length later) c.args.first c.self.invariant.0 inside c.if-first-lt-PIECE.false in
    rw c.swap-else-first-lt-PIECE.ensures (
    subst (λ (xs : List g.row.S.Denot). HasPart xs (in_pieces front (slice_set later place part) blank count) c.args.first part) (ap (λ of. of.items) c.self.view_is)
    (part_late front part later blank count c.args.first c.requires.whole c.requires.aligned fits c.if-first-lt-PIECE.false there))
