-- Proof of `Samples::last`.
use Rattle.std.proofs.Common.{◌≡◌, ◌+ℤ◌, ◌-ℤ◌, pos, to_z, of_z, arith, ap, subst, ◌∙◌}
use Rattle.std.proofs.lemmas.Int.{ints}
use Rattle.std.specs.Int.{w128}
use Rattle.std.specs.Option.{unwrap_or}
use Rattle.lv_series.specs.Samples.{newest_of}
use Rattle.lv_series.proofs.TimeWindows.{IsPlaceOf, newest_or, window_of_last}
use Rattle.lv_series.proofs.samples.Samples.last.Goals as goal

pub returns : goal.returns
returns c =
    let s = c.args.self.now in
    let newest : c.unwrap_or.result ≡ newest_of s.times = c.unwrap_or.ensures ∙ ap (λ o. unwrap_or o (pos 0)) c.newest.ensures ∙ newest_or s.times in
    let time = to_z w128 (of_z w128 (to_z w128 (of_z w128 (to_z w128 (of_z w128 c.from-newest.result) -ℤ to_z w128 (of_z w128 c.from.result))) +ℤ pos 1)) in
    let is : time ≡ (newest_of s.times -ℤ pos c.args.span) +ℤ pos 1 = omega (arith, ints) in
    let e = c.index_since.ensures in
    let place : IsPlaceOf s time c.index_since.result = record { from = e.from; to = e.to; before = e.before; behind = e.behind } in
    window_of_last s e.paired (newest_of s.times) c.args.span c.index_since.result c.size.result (subst (λ t. IsPlaceOf s t c.index_since.result) is place) (rw (← c.self.view_is) c.size.ensures)
