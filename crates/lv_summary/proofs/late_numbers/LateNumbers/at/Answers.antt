-- Proof of `LateNumbers::at`: the number at a place.
use Rattle.std.proofs.Common.{◌/◌, ◌%◌, ◌<◌, ◌∙◌, Some, ap, arith, get_or, length}
use Rattle.std.proofs.lemmas.Option.{get_or_from_slice_get}
use Rattle.lv_summary.specs.Inner.{number_at}
use Rattle.lv_summary.proofs.ByNumber.{length-by_number, read_number}
use Rattle.lv_summary.proofs.late_numbers.LateNumbers.at.Goals as goal

pub get-requires : goal.get-requires
get-requires c =
    omega (arith, c.requires, c.self.invariant.0, length-by_number (number_at c.self.inside.eights) c.self.inside.count, ap (λ of. length of.items) c.self.view_is)

pub returns : goal.returns
returns c =
    let eights = c.self.inside.eights in
    let inside : c.args.place < c.self.inside.count = omega (arith, c.requires, length-by_number (number_at eights) c.self.inside.count, ap (λ of. length of.items) c.self.view_is) in
    rw (← c.self.view_is) (
    read_number (number_at eights) c.self.inside.count c.args.place inside
    ∙ ap (λ eight. Some (get_or eight (c.args.place % 8) 0)) (get_or_from_slice_get eights.items (c.args.place / 8) c.get.result.now eights.blank c.get.ensures))
