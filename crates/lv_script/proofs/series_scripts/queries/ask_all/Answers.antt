-- Proof of `ask_all`: asks all queries once.
use Rattle.std.proofs.Common.{◌∙◌, ap, map}
use Rattle.lv_standing.specs.QuerySets.{with_answers}
use Rattle.lv_script.specs.PlainSeriesScript.{long_answer}
use Rattle.lv_script.proofs.series_scripts.queries.ask_all.Goals as goal

pub ask_prepared-requires : goal.ask_prepared-requires
ask_prepared-requires c = ap (λ s. s.table) c.prepare_each.ensures ∙ c.requires.table

pub returns-clause-answers : goal.returns-clause-answers
returns-clause-answers c =
    let set = c.args.queries.now in
    c.ask_prepared.ensures ∙ ap (λ s. with_answers set (map (long_answer s.held) set.queries)) c.prepare_each.ensures
