-- Proof of `ask_span`: the summary by a kind of the elements in a span.
use Rattle.std.proofs.Common.{◌≡◌, ◌∙◌, ◌+◌, ap, arith, length, sym}
use Rattle.std.proofs.lemmas.Option.{none-some}
use Rattle.lv_tree.specs.KindSummaries.{summary_of}
use Rattle.lv_edits.specs.History.{list_of}
use Rattle.lv_standing.proofs.AskableLaws.{span_there}
use Rattle.lv_standing.proofs.RangeLaws.{range_granted}
use Rattle.lv_standing.proofs.asking.ask_span.Goals as goal

pub unreachable-requires : goal.unreachable-requires
unreachable-requires g c =
    none-some _ (sym (range_granted c.args.live.now.history.journal c.indices_in-lo.result.lo c.indices_in-lo.result.hi c.indices_in-lo.ensures.order (omega (arith, c.indices_in-lo.ensures.inside, c.from.ensures, c.size.ensures))) ∙ c.in-Err.ensures.err)

pub returns-clause-value : goal.returns-clause-value
returns-clause-value g c =
    let xs = list_of c.args.live.now.history.journal in
    let from_size : 0 + length xs ≡ c.from.result = omega (arith, c.from.ensures, c.size.ensures) in
    c.in-Ok.ensures.ok.summary ∙ ap (summary_of c.args.kind) (span_there c.args.span xs c.indices_in-lo.result.lo c.indices_in-lo.result.hi (c.indices_in-lo.ensures.same 0 xs from_size))
