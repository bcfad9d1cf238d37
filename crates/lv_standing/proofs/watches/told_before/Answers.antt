-- Proof of `told_before`: the summary of one of the six queries before a place, if one is alike.
use Rattle.std.proofs.Common.{◌∙◌, ap, ap₂, sym}
use Rattle.lv_edits.specs.History.{list_of}
use Rattle.lv_tree.specs.KindSummaries.{summary_of}
use Rattle.lv_standing.specs.Queries.{span_of}
use Rattle.lv_standing.specs.Standings.{summary_at}
use Rattle.lv_standing.proofs.TellLaws.{at_front}
use Rattle.lv_standing.proofs.watches.told_before.Goals as goal

pub returns-then-is_alike : goal.returns-then-is_alike
returns-then-is_alike c =
    let edits = c.args._live.now.history.journal in
    let other = c.index-queries-j.result in
    let alike = c.is_alike.ensures.0 c.if-is_alike.true in
    at_front (summary_at edits) c.args.queries.now c.args.summaries.now c.args.i c.loop-j.j other _ c.requires.told c.loop-j-test.true c.requires.within
    ∙ ap (summary_at edits) (sym c.index-queries-j.is)
    ∙ ap₂ (λ span kind. summary_of kind (span_of span (list_of edits))) alike.0 alike.1
