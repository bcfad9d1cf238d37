-- Proof of `ask_held`: a reduction of something that has a series. The tree of each kind is made first.
use Rattle.std.proofs.Common.{None, sym, ap, ◌∙◌}
use Rattle.lv_series.specs.Series.{range_refused}
use Rattle.livevec_c.specs.SeriesBehind.{with_all}
use Rattle.livevec_c.proofs.SeriesLaws.{all_made}
use Rattle.livevec_c.proofs.series_asks.ask_held.Goals as goal

pub returns : goal.returns
returns g c =
    let old = g.H.HasSeries.series_of c.args.held.now in
    let state = with_all None old in
    let made = c.prepare_each.ensures.all c.if-not-prepare_each.false in
    let is = c.series-2.ensures ∙ ap g.H.HasSeries.series_of made ∙ g.H.HasSeries.given_series state c.args.held.now in
    let granted = ap (λ s. range_refused s.held c.args.lo c.args.hi) (sym c.series.ensures) ∙ sym c.range_refusal.ensures ∙ c.in_default.is in
    (state, made, all_made old c.series-2.result.now c.args.lo c.args.hi c.reduce_series.result is granted c.reduce_series.ensures)
