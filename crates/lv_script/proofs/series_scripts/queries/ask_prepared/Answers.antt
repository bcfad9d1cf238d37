-- Proof of `ask_prepared`: asks all queries once, by the trees that there are.
use Rattle.std.proofs.Common.{◌∙◌, ap, map}
use Rattle.lv_standing.specs.QuerySets.{with_answers}
use Rattle.lv_script.proofs.ValueLaws.{answered_plainly}
use Rattle.lv_script.proofs.series_scripts.queries.ask_prepared.Goals as goal

pub returns : goal.returns
returns c =
    let set = c.args.queries.now in
    c.ask.ensures.answers ∙ ap (λ answer. with_answers set (map answer set.queries)) (answered_plainly c.args.series.now c.requires)
