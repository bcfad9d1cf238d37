-- Proof of `new_series`: a new series in a place of its own.
use Rattle.std.proofs.Common.{[], ap, ◌∙◌}
use Rattle.lv_series.specs.Plain.{plain_series}
use Rattle.livevec_c.specs.declared.objects.Object.TheVariants.{Series}
use Rattle.livevec_c.proofs.series.new_series.Goals as goal

pub returns : goal.returns
returns c = c.in_ok-new.ensures.ok ∙ ap Series (c.new-series.ensures ∙ ap (λ table. plain_series table []) c.program.ensures)
