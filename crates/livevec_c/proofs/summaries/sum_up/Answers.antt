-- Proof of `sum_up`: the summary of a range of a vector.
use Rattle.std.proofs.Common.{Some, ap, ◌∙◌, sym, subst}
use Rattle.lv_bodies.specs.Automata.{table_of}
use Rattle.lv_shards.specs.Summaries.{leads_of}
use Rattle.livevec_c.specs.Summed.{SumsRange}
use Rattle.livevec_c.proofs.Summing.{range_is_fold, range_is_summary}
use Rattle.livevec_c.proofs.summaries.sum_up.Goals as goal

pub of_fold-requires : goal.of_fold-requires
of_fold-requires c =
    let state = c.args.live.now in
    rw (c.from-count.ensures, c.body.ensures)
    (range_is_fold state.history (table_of state.body.automaton) c.args.lo c.args.hi c.each-six.result c.keeps.ensures.limits c.in-Ok.ensures.answer.0.granted (c.each-six.ensures ∙ c.in-Ok.ensures.answer.0.value))

pub returns-in-Ok : goal.returns-in-Ok
returns-in-Ok c =
    let state = c.args.live.now in
    let granted = c.in-Ok.ensures.answer.0.granted in
    let of = c.of_fold.ensures in
    subst (λ r. SumsRange r c.args.lo c.args.hi c.summary_answer.result state) (sym granted) (
      c.of_fold.result,
      c.summary_answer.ensures,
      range_is_summary state.history (table_of state.body.automaton) c.args.lo c.args.hi c.of_fold.result c.keeps.ensures.limits granted state.body.automaton.valid
          (ap (λ u. u.count) of ∙ c.from-count.ensures) (ap (λ u. u.six) of ∙ c.each-six.ensures ∙ c.in-Ok.ensures.answer.0.value)
          (ap (λ u. u.leads) of ∙ ap (λ b. leads_of (table_of b.automaton)) c.body.ensures),
      ap (λ u. u.edit) of ∙ ap Some c.in-Ok.ensures.answer.0.edit,
    )
