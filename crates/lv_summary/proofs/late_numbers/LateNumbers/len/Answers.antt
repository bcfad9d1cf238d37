-- Proof of `LateNumbers::len`: how many numbers there are.
use Rattle.std.proofs.Common.{◌∙◌, ap, length, sym}
use Rattle.lv_summary.specs.Inner.{number_at}
use Rattle.lv_summary.proofs.ByNumber.{length-by_number}
use Rattle.lv_summary.proofs.late_numbers.LateNumbers.len.Goals as goal

pub returns : goal.returns
returns c = sym (length-by_number (number_at c.self.inside.eights) c.self.inside.count) ∙ ap (λ of. length of.items) c.self.view_is
