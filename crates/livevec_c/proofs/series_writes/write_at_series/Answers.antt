-- Proof of `write_at_series`: writes at a series.
use Rattle.std.proofs.Common.{Ok, length, ap, sym, ◌∙◌}
use Rattle.lv_series.proofs.WriteLaws.{count_writes}
use Rattle.livevec_c.specs.SeriesAnswers.{granted}
use Rattle.livevec_c.proofs.series_writes.write_at_series.Goals as goal

pub returns-in-Ok : goal.returns-in-Ok
returns-in-Ok c =
    record {
      paired = λ same.
          let many = length c.args.indices.now in
          let is = ap (λ why. record { why = why; edit = c.in-Ok.edit; done = many; place = 0 }) c.not_refused.ensures ∙ ap (λ n. record { why = granted; edit = c.in-Ok.edit; done = n; place = 0 }) (sym (count_writes c.args.indices.now c.args.values.now same)) in
          (Ok c.in-Ok.edit, is, c.in-Ok.ensures);
      unpaired = λ other. absurd (other c.if-indices-values.false);
    }
