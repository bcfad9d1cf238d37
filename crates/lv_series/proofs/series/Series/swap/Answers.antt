-- Proof of `Series::swap`.
use Rattle.std.proofs.Common.{◌≡◌, ◌+◌, None, FitsSigned, rules, sym, ap, ◌∙◌, arith}
use Rattle.std.specs.Int.{w64}
use Rattle.std.proofs.lemmas.Int.{to_z-of_z}
use Rattle.lv_series.specs.declared.edits.LongEdit.TheVariants.{Swap}
use Rattle.lv_series.specs.declared.receipts.LongReceipt.TheVariants.{Swapped}
use Rattle.lv_series.specs.Series.{element_of, held_in, refused}
use Rattle.lv_series.proofs.FreeLaws.{free_edit, free_swap}
use Rattle.lv_series.proofs.KeptLaws.{size_in, swap_in}
use Rattle.lv_series.proofs.SeriesLaws.{accepted, with_trees}
use Rattle.lv_series.proofs.series.Series.swap.Goals as goal

pub returns : goal.returns
returns c =
    let s = c.self.inside in
    let i = c.args.first in
    let j = c.args.second in
    let els = s.elements.items in
    let held = held_in s.base s.first els in
    let window = c.self.invariant.0 in
    let free : refused (with_trees s.trees held s.edits) (Swap i j) ≡ None = rw (← c.self.view_is) at (sym c.verdict.ensures ∙ c.in_default.is) in
    let inside = free_swap held i j (free_edit (with_trees s.trees held s.edits) (Swap i j) free).1 in
    let size = size_in s.base s.first els window in
    let value : c.read-value.result ≡ element_of held j = rw (← c.self.view_is) at c.read-value.ensures in
    let other : c.read-other.result ≡ element_of held i = rw (← c.self.view_is) at c.read-other.ensures in
    let fits : FitsSigned w64 c.read-value.result = search rules in
    let fits_too : FitsSigned w64 c.read-other.result = search rules in
    rw (to_z-of_z w64 c.read-value.result fits, to_z-of_z w64 c.read-other.result fits_too, ← c.self.view_is) (accepted s.trees c.swap_into.new.trees held (held_in s.base s.first c.swap_into.new.elements.items) s.edits (Swap i j) (Swapped (s.edits + 1) c.read-value.result c.read-other.result) c.swap_into.ensures.kinds free
    (ap (held_in s.base s.first) c.swap_into.ensures.swapped ∙ swap_in s.base s.first els window i j inside.0.0 (omega (arith, inside.0.1, size)) inside.1.0 (omega (arith, inside.1.1, size)))
    (ap (λ x. Swapped (s.edits + 1) x c.read-other.result) value ∙ ap (Swapped (s.edits + 1) (element_of held j)) other))
