-- Proof of `LateNumbers::set`: puts a number at a place.
use Rattle.std.proofs.Common.{◌≡◌, ◌/◌, ◌%◌, ◌<◌, ◌∙◌, ap, arith, length, length-set, set, slice_set}
use Rattle.lv_summary.specs.Inner.{number_at}
use Rattle.lv_summary.proofs.ByNumber.{by_number-set, length-by_number, still_blank}
use Rattle.lv_summary.proofs.NumberLaws.{number_at-set}
use Rattle.lv_summary.proofs.late_numbers.LateNumbers.set.Goals as goal

pub at-eight-requires : goal.at-eight-requires
at-eight-requires c =
    omega (arith, c.requires, c.self.invariant.0, length-by_number (number_at c.self.inside.eights) c.self.inside.count, ap (λ of. length of.items) c.self.view_is)

pub set-requires : goal.set-requires
set-requires c =
    omega (arith, c.requires, c.self.invariant.0, length-by_number (number_at c.self.inside.eights) c.self.inside.count, ap (λ of. length of.items) c.self.view_is)

pub invariant_of-self : goal.invariant_of-self
invariant_of-self c =
    let old = c.self.inside.eights in
    let new = c.set.new.self in
    let count = c.self.inside.count in
    let place = c.args.place in
    let inside : place < count = omega (arith, c.requires, length-by_number (number_at old) count, ap (λ of. length of.items) c.self.view_is) in
    let long : length c.at-eight.result ≡ 8 = omega (arith, c.at-eight.type_inv) in (
      omega (arith, c.self.invariant.0, ap length c.set.ensures.items, length-set old.items (place / 8) (set c.at-eight.result (place % 8) c.args.x)),
      still_blank (number_at old) (number_at new) 0 count place c.args.x inside
          (number_at-set old new c.at-eight.result place c.args.x c.at-eight.ensures long c.set.ensures.items c.set.ensures.blank) c.self.invariant.1,
      rw c.set.ensures.blank c.self.invariant.2,
    )

pub returns : goal.returns
returns c =
    let old = c.self.inside.eights in
    let new = c.set.new.self in
    let count = c.self.inside.count in
    let place = c.args.place in
    let inside : place < count = omega (arith, c.requires, length-by_number (number_at old) count, ap (λ of. length of.items) c.self.view_is) in
    let long : length c.at-eight.result ≡ 8 = omega (arith, c.at-eight.type_inv) in
    by_number-set (number_at old) (number_at new) 0 count place c.args.x inside
    (number_at-set old new c.at-eight.result place c.args.x c.at-eight.ensures long c.set.ensures.items c.set.ensures.blank)
    ∙ ap (λ of. slice_set of.items place c.args.x) c.self.view_is
