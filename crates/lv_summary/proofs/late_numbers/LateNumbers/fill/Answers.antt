-- Proof of `LateNumbers::fill`: adds zeros, so that there are so many numbers in all, if there are fewer.
use Rattle.std.proofs.Common.{◌∙◌, ap}
use Rattle.lv_summary.specs.Inner.{number_at, numbers_in}
use Rattle.lv_summary.proofs.ByNumber.{by_number-longer, by_number-same}
use Rattle.lv_summary.proofs.NumberLaws.{number_at-longer}
use Rattle.lv_summary.proofs.late_numbers.LateNumbers.fill.Goals as goal

pub returns : goal.returns
returns c =
    let old = c.self.inside.eights in
    let new = c.fill.new.self in
    let count = c.self.inside.count in
    rw (← c.self.view_is) (
    ap (λ n. numbers_in new n) c.max-self-inside.ensures
    ∙ by_number-same (number_at old) (number_at new) 0 _ (number_at-longer old new c.div_ceil.result c.fill.ensures.items c.fill.ensures.blank)
    ∙ by_number-longer (number_at old) 0 count c.args.items c.self.invariant.1)
