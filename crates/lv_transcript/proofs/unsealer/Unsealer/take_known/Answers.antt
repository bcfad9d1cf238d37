-- Proof of `Unsealer::take_known`: takes bytes of a file whose form is known.
use Rattle.std.proofs.Common.{sym, ◌∙◌}
use Rattle.lv_transcript.proofs.unsealer.Unsealer.take_known.Goals as goal

pub invariant_of-self-in-Sealed : goal.invariant_of-self-in-Sealed
invariant_of-self-in-Sealed c = record {
  are_kept = (λ is. absurd (cc (sym c.in-Sealed.is ∙ is)), λ is. absurd (cc (sym c.in-Sealed.is ∙ is)), λ _. c.take_lines-hash.ensures.begun, c.take_lines-hash.ensures.short);
}
