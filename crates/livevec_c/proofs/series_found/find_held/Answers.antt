-- Proof of `find_held`: searches a range of something that has a series.
use Rattle.std.proofs.Common.{ap, ◌∙◌}
use Rattle.lv_series.specs.Series.{with_kind}
use Rattle.livevec_c.specs.SeriesHeld.{Long}
use Rattle.livevec_c.proofs.FoundLaws.{search_told}
use Rattle.livevec_c.proofs.series_found.find_held.Goals as goal

pub returns-in-Ok : goal.returns-in-Ok
returns-in-Ok g c =
    let before = g.H.HasSeries.series_of c.args.held.now in
    let made : Long = record before { kinds = with_kind c.sought_by.result before.kinds } in
    let is = ap g.H.HasSeries.series_of c.in-Ok.ensures.ok ∙ g.H.HasSeries.given_series made c.args.held.now in (
      made,
      c.in-Ok.ensures.ok,
      search_told c.args.wanted c.sought_by.result c.args.lo c.args.hi c.find_in.result before (g.H.HasSeries.series_of c.prepare_for.new.self) c.series.result.now c.sought_by.ensures is c.series.ensures c.in-Ok.ensures.searchable c.find_in.ensures,
    )
