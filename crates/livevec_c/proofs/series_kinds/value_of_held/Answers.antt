-- Proof of `value_of_held`: a value of what has a series by a kind, whose tree is made first.
use Rattle.std.proofs.Common.{ap, ◌∙◌}
use Rattle.std.specs.Prelude.{nat_lt}
use Rattle.livevec_c.specs.Seats.{values_for}
use Rattle.livevec_c.specs.SeriesAnswers.{unreduced_by}
use Rattle.livevec_c.proofs.SeriesLaws.{kind_asked, kind_refused}
use Rattle.livevec_c.proofs.series_kinds.value_of_held.Goals as goal

pub returns-in-Err : goal.returns-in-Err
returns-in-Err g c =
    let refused = kind_refused c.args.kind _ _ c.args.lo c.args.hi c.in-Err.refusal c.not_reduced.result c.in-Err.ensures.asked (c.not_reduced.ensures ∙ ap unreduced_by c.refusal_answer.ensures) in
    (g.H.HasSeries.series_of c.ask.new.self, c.in-Err.ensures.kept, refused)

pub returns-in-Ok : goal.returns-in-Ok
returns-in-Ok g c =
    let told =
    ap (λ values. record { why = c.not_refused.result; edit = c.in-Ok.answer.edit; values = values }) c.shown_values.ensures
    ∙ ap (λ why. record { why = why; edit = c.in-Ok.answer.edit; values = values_for (nat_lt c.args.lo c.args.hi) c.shown.result }) c.not_refused.ensures
    in
    (g.H.HasSeries.series_of c.ask.new.self, c.in-Ok.ensures.kept, kind_asked c.args.kind _ _ c.args.lo c.args.hi c.in-Ok.answer c.shown.result _ c.in-Ok.ensures.asked c.shown.ensures told)
