-- Proof of `are_rising`: whether times do not fall.
use Rattle.std.proofs.Common.{◌-◌, w64, FitsSigned, rules}
use Rattle.std.proofs.lemmas.Int.{to_z-of_z}
use Rattle.lv_saved.proofs.RiseLaws.{falls, rises_more, time_at}
use Rattle.lv_saved.proofs.rising.are_rising.Goals as goal

pub returns-then-times-k : goal.returns-then-times-k
returns-then-times-k c =
    let times = c.args.times.now in
    let k = c.loop-k.k in
    let fits : FitsSigned w64 (time_at times k) = search rules in
    let fits_before : FitsSigned w64 (time_at times (k - 1)) = search rules in
    let lt = rw (to_z-of_z w64 (time_at times k) fits, to_z-of_z w64 (time_at times (k - 1)) fits_before) at c.if-times-k.true in
    (λ t. absurd (cc), λ rising. elim (falls times k c.loop-k.auto.k c.loop-k-test.true lt rising) [ ])

pub loop-k-preserved : goal.loop-k-preserved
loop-k-preserved c =
    let times = c.args.times.now in
    let k = c.loop-k.k in
    let fits : FitsSigned w64 (time_at times k) = search rules in
    let fits_before : FitsSigned w64 (time_at times (k - 1)) = search rules in
    rises_more times k c.loop-k.auto.k c.loop-k.invariant (rw (to_z-of_z w64 (time_at times k) fits, to_z-of_z w64 (time_at times (k - 1)) fits_before) at c.if-times-k.false)
