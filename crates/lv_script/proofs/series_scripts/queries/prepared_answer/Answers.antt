-- Proof of `prepared_answer`: what a query answers, once the kind's tree was made.
use Rattle.std.proofs.Common.{◌∙◌, ap}
use Rattle.lv_script.specs.PlainSeriesScript.{long_answer}
use Rattle.lv_script.proofs.series_scripts.queries.prepared_answer.Goals as goal

pub answer-requires : goal.answer-requires
answer-requires c = ap (λ s. s.table) c.prepare.ensures ∙ c.requires.table

pub returns-clause-value : goal.returns-clause-value
returns-clause-value c = c.answer.ensures ∙ ap (λ s. long_answer s.held c.args.query.now) c.prepare.ensures
