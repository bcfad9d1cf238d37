-- Proof of `Samples::window`.
use Rattle.std.proofs.Common.{◌≡◌, to_z, of_z, arith, subst}
use Rattle.std.proofs.lemmas.Int.{ints}
use Rattle.std.specs.Int.{w128}
use Rattle.lv_series.proofs.TimeWindows.{IsPlaceOf, window_between}
use Rattle.lv_series.proofs.samples.Samples.window.Goals as goal

pub returns : goal.returns
returns c =
    let s = c.args.self.now in
    let since : to_z w128 (of_z w128 c.from.result) ≡ c.args.since = omega (arith, ints) in
    let until : to_z w128 (of_z w128 c.from-2.result) ≡ c.args.until = omega (arith, ints) in
    let a = c.index_since.ensures in
    let b = c.index_since-2.ensures in
    let first : IsPlaceOf s (to_z w128 (of_z w128 c.from.result)) c.index_since.result = record { from = a.from; to = a.to; before = a.before; behind = a.behind } in
    let last : IsPlaceOf s (to_z w128 (of_z w128 c.from-2.result)) c.index_since-2.result = record { from = b.from; to = b.to; before = b.before; behind = b.behind } in
    window_between s a.paired c.args.since c.args.until c.index_since.result c.index_since-2.result c.requires (subst (λ t. IsPlaceOf s t c.index_since.result) since first) (subst (λ t. IsPlaceOf s t c.index_since-2.result) until last)
