-- Proof of `Samples::new`: no values, and no times.
use Rattle.std.proofs.Common.{◌+◌, length, sym, ap, ◌∙◌, subst, arith}
use Rattle.lv_series.specs.Samples.{IsRising}
use Rattle.lv_series.proofs.samples.Samples.new.Goals as goal

pub invariant_of-result : goal.invariant_of-result
invariant_of-result c = (
  ap (λ s. 0 + length s.held.elements) c.new.ensures ∙ sym (ap length c.new-2.ensures.items),
  subst IsRising (sym c.new-2.ensures.items) (record { rises = λ i j order inside. absurd (omega (arith, inside)) }),
)
