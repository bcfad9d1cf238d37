-- Proof of `put_value`: puts the value of a range by a kind among the plain values.
use Rattle.std.proofs.Common.{ap, ◌∙◌}
use Rattle.livevec_c.specs.Answers.{with_part}
use Rattle.livevec_c.proofs.reads.put_value.Goals as goal

pub returns-clause-put : goal.returns-clause-put
returns-clause-put c = c.put_part.ensures ∙ ap (λ p. with_part p c.args.values.now) c.in-Ok.ensures.ok.summary
