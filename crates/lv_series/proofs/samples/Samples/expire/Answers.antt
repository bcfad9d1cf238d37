-- Proof of `Samples::expire`.
use Rattle.std.proofs.Common.{◌+◌, ◌-◌, drop, ap, ◌∙◌}
use Rattle.lv_series.proofs.SampleLaws.{paired_after, rising_after}
use Rattle.lv_series.proofs.samples.Samples.expire.Goals as goal

pub invariant_of-self-in-Ok : goal.invariant_of-self-in-Ok
invariant_of-self-in-Ok c =
    let s = c.self.inside in
    let f = c.forget_times-self-inside in
    let is = f.ensures.kept ∙ ap (λ n. drop (s.gone + (c.args.index - n)) s.times.items) c.first-first.ensures in (
      paired_after s.series c.expire.new.self s.times.items s.gone c.in-Ok.receipt c.self.invariant.0 c.args.index f.result f.new.times.items f.ensures.within is c.in-Ok.ensures,
      rising_after s.series c.expire.new.self s.times.items s.gone c.in-Ok.receipt c.self.invariant.0 c.args.index f.result f.new.times.items f.ensures.within is c.in-Ok.ensures c.self.invariant.1,
    )
