-- Proof of `write_at_vector`: writes at a vector.
use Rattle.std.proofs.Common.{Ok, ap, sym}
use Rattle.lv_edits.proofs.BatchLaws.{length-writes}
use Rattle.livevec_c.proofs.writes.write_at_vector.Goals as goal

pub returns-in-Ok : goal.returns-in-Ok
returns-in-Ok c =
    record {
      paired = λ same.
          let count = sym (length-writes c.args.indices.now c.args.values.now same) in
          (c.in-Ok.ensures.limits, c.in-Ok.ensures.refresh, (Ok c.in-Ok.edit, ap (λ n. record { refusal = 0; detail = 0; edit = c.in-Ok.edit; done = n; place = 0 }) count, c.in-Ok.ensures.answer));
      unpaired = λ other. absurd (other c.if-indices-values.false);
    }
