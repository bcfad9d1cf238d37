-- Proof of `value` of a vector for C: a range that it has.
use Rattle.std.proofs.Common.{◌∙◌, ap, arith, length, sym}
use Rattle.std.proofs.lemmas.Option.{none-some}
use Rattle.lv_bodies.specs.Automata.{table_of}
use Rattle.lv_bodies.specs.Plain.{plain_value_with}
use Rattle.lv_edits.specs.History.{list_of}
use Rattle.lv_edits.specs.Ranges.{slice_of}
use Rattle.lv_tree.specs.KindSummaries.{shown_of}
use Rattle.lv_standing.proofs.AskableLaws.{from_start}
use Rattle.lv_standing.proofs.RangeLaws.{range_granted}
use Rattle.livevec_c.specs.SpreadLaws.{shown-plain}
use Rattle.livevec_c.proofs.queries_told.KindVectorAskable.value.Goals as goal

pub overflow_cast-lo : goal.overflow_cast-lo
overflow_cast-lo c =
    omega (arith, c.requires.inside, c.requires.order, c.keeps.ensures.limits.few, ap (λ s. length (list_of s.history.journal)) c.live.ensures)

pub overflow_cast-hi : goal.overflow_cast-hi
overflow_cast-hi c = omega (arith, c.requires.inside, c.keeps.ensures.limits.few, ap (λ s. length (list_of s.history.journal)) c.live.ensures)

pub unreachable-requires : goal.unreachable-requires
unreachable-requires c =
    none-some _ (sym (range_granted c.args.self.now.history.journal c.args.lo c.args.hi c.requires.order (omega (arith, c.requires.inside))) ∙ c.in-Err.ensures.err)

pub returns-clause-value : goal.returns-clause-value
returns-clause-value c =
    let state = c.args.self.now in
    let table = table_of state.body.automaton in
    c.shown.ensures ∙ ap shown_of c.in-Ok.ensures.ok.summary ∙ shown-plain table (slice_of state.history.journal c.args.lo c.args.hi) c.args.kind
    ∙ ap (plain_value_with table c.args.kind) (sym (from_start (list_of state.history.journal) c.args.lo c.args.hi))
