-- Proof of `Samples::truncate`.
use Rattle.std.proofs.Common.{◌+◌, ◌-◌, ap, ◌∙◌, take}
use Rattle.lv_series.proofs.SampleLaws.{truncated}
use Rattle.lv_series.proofs.samples.Samples.truncate.Goals as goal

pub returns-in-Ok : goal.returns-in-Ok
returns-in-Ok c =
    let s = c.self.inside in
    let left = c.truncate-in-Ok.ensures.items ∙ ap (λ n. take (s.gone + (c.args.size - n)) s.times.items) c.first.ensures in
    rw (← c.self.view_is) (truncated s.series c.truncate.new.self s.times.items s.gone c.in-Ok.receipt c.truncate-in-Ok.new.self.items c.args.size left c.in-Ok.ensures)
