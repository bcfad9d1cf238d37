-- Proof of `LateNumbers::forget`: makes every number 0.
use Rattle.std.proofs.Common.{◌∙◌, ap, length, replicate, sym}
use Rattle.lv_summary.specs.Inner.{number_at}
use Rattle.lv_summary.proofs.ByNumber.{by_number-blank, length-by_number}
use Rattle.lv_summary.proofs.NumberLaws.{number_at-none}
use Rattle.lv_summary.proofs.late_numbers.LateNumbers.forget.Goals as goal

pub returns : goal.returns
returns c =
    let old = c.self.inside.eights in
    let new = c.forget.new.self in
    let count = c.self.inside.count in
    by_number-blank (number_at new) 0 count (number_at-none old new (length old.items) c.forget.ensures.items c.forget.ensures.blank c.self.invariant.2)
    ∙ ap (λ n. replicate n 0) (sym (length-by_number (number_at old) count) ∙ ap (λ of. length of.items) c.self.view_is)
