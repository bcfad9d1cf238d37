-- Proof of `place_of`.
use Rattle.std.proofs.Common.{◌≡◌, ◌+◌, ◌-◌, ◌/◌, arith, to_z, of_z, w64, FitsSigned, rules, ◌∙◌}
use Rattle.std.proofs.lemmas.Int.{to_z-of_z}
use Rattle.std.specs.Int.{w128}
use Rattle.lv_series.proofs.TimeLaws.{all_before, sought_above, sought_below, time_at}
use Rattle.lv_series.proofs.times.place_of.Goals as goal

pub loop-low-preserved-then-from-time : goal.loop-low-preserved-then-from-time
loop-low-preserved-then-from-time c =
    let mid = c.loop-low.low + (c.loop-low.high - c.loop-low.low) / 2 in
    let fits : FitsSigned w64 (time_at c.args.times.now mid) = search rules in
    let read : c.from.result ≡ time_at c.args.times.now mid = c.from.ensures ∙ to_z-of_z w64 (time_at c.args.times.now mid) fits in
    let same : to_z w128 (of_z w128 c.from.result) ≡ time_at c.args.times.now mid = to_z-of_z w128 c.from.result (search rules) ∙ read in
    sought_above c.args.times.now _ c.loop-low.low c.loop-low.high mid c.requires c.loop-low.invariant (omega arith) (rw same at c.if-from-time.true)

pub loop-low-preserved : goal.loop-low-preserved
loop-low-preserved c =
    let mid = c.loop-low.low + (c.loop-low.high - c.loop-low.low) / 2 in
    let fits : FitsSigned w64 (time_at c.args.times.now mid) = search rules in
    let read : c.from.result ≡ time_at c.args.times.now mid = c.from.ensures ∙ to_z-of_z w64 (time_at c.args.times.now mid) fits in
    let same : to_z w128 (of_z w128 c.from.result) ≡ time_at c.args.times.now mid = to_z-of_z w128 c.from.result (search rules) ∙ read in
    sought_below c.args.times.now _ c.loop-low.low c.loop-low.high mid c.requires c.loop-low.invariant (omega arith) (omega arith) (rw same at c.if-from-time.false)

pub returns-clause-before : goal.returns-clause-before
returns-clause-before c =
    let time = to_z-of_z w128 c.args.time c.ranges.time in
    let sought = rw time at c.loop-low.invariant in
    all_before c.args.times.now c.args.time c.loop-low.low c.loop-low.high sought
