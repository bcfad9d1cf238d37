-- Proof of `LateRows::eight`: eight items, from one on, as a slice, if they are stored side by side; none if one of them was never written.
use Rattle.std.proofs.Common.{◌+◌, ◌≤◌, ◌∙◌, ap, arith, length, subst}
use Rattle.std.proofs.lemmas.Option.{IfSome_then}
use Rattle.std.specs.Prelude.{slice_range}
use Rattle.lv_summary.specs.Inner.{AreLaterEight}
use Rattle.lv_summary.proofs.LateLaws.{eight_early, eight_late, length-in_pieces}
use Rattle.lv_summary.proofs.late_rows.LateRows.eight.Goals as goal

pub overflow_add-first : goal.overflow_add-first
overflow_add-first g c =
    omega (arith, length-in_pieces c.self.inside.front.items c.self.inside.later.items c.self.inside.blank c.self.inside.count, ap (λ of. length of.items) c.self.view_is, c.self.invariant.2)

pub returns-in-Some : goal.returns-in-Some
returns-in-Some g c =
    let front = c.self.inside.front.items in
    let later = c.self.inside.later.items in
    let count = c.self.inside.count in
    let blank = c.self.inside.blank in
    let inside : c.args.first + 8 ≤ count = omega (arith, length-in_pieces front later blank count, ap (λ of. length of.items) c.self.view_is) in
    let written : c.args.first + 8 ≤ length front = omega (arith, c.in-Some.ensures.lookup.0.1, ap length c.deref.ensures.value) in
    rw (← c.self.view_is) (
    eight_early front c.in-Some.eight.now later blank count c.args.first (omega (arith, c.self.invariant.1)) written
    (c.in-Some.ensures.lookup.0.2 ∙ ap (λ xs. slice_range xs c.args.first (c.args.first + 8)) c.deref.ensures.value) inside)

pub returns-in-None : goal.returns-in-None
returns-in-None g c =
    let front = c.self.inside.front.items in
    let later = c.self.inside.later.items in
    let count = c.self.inside.count in
    let blank = c.self.inside.blank in
    let inside : c.args.first + 8 ≤ count = omega (arith, length-in_pieces front later blank count, ap (λ of. length of.items) c.self.view_is) in
    rw (← c.self.view_is) (
    IfSome_then c.later_eight.result c.later_eight.ensures
    (λ eight are. eight_late front eight.now later blank count c.args.first (subst (λ later. AreLaterEight eight.now later c.args.first) c.deref-in-None.ensures.value are) inside))
