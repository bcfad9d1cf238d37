-- Proof of `answer`: what a query answers by the trees that there are.
use Rattle.std.proofs.Common.{◌∙◌, ap}
use Rattle.lv_script.proofs.ValueLaws.{answered_plainly}
use Rattle.lv_script.proofs.series_scripts.queries.answer.Goals as goal

pub returns : goal.returns
returns c = c.answer_by.ensures.value ∙ ap (λ answer. answer c.args.query.now) (answered_plainly c.args.series.now c.requires)
