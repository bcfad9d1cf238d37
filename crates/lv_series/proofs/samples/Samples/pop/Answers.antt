-- Proof of `Samples::pop`.
use Rattle.std.proofs.Common.{◌≡◌, ◌-◌, arith, ap, ◌∙◌, length, take}
use Rattle.lv_series.proofs.SampleLaws.{popped}
use Rattle.lv_series.proofs.samples.Samples.pop.Goals as goal

pub returns-in-Ok : goal.returns-in-Ok
returns-in-Ok c =
    let s = c.self.inside in
    let count : c.len.result ≡ length s.times.items = omega (arith, s.times.ok.0) in
    let left = c.truncate.ensures.items ∙ ap (λ n. take (n - 1) s.times.items) count in
    rw (← c.self.view_is) (popped s.series c.pop.new.self s.times.items s.gone c.in-Ok.receipt c.truncate.new.self.items c.self.invariant.0 left c.in-Ok.ensures)
