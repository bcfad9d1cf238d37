-- Proof of `numbers`: the numbers that a summary is written by.
use Rattle.std.proofs.Common.{refl}
use Rattle.std.specs.Int.{w128}
use Rattle.std.proofs.lemmas.Int.{to_z-of_z}
use Rattle.lv_shards.specs.Bytes.{run_or_zeros}
use Rattle.lv_shards.proofs.Back.{total_fits}
use Rattle.lv_shards.proofs.Short.{run_within}
use Rattle.lv_shards.proofs.bytes.numbers.Goals as goal

pub returns : goal.returns
returns c =
    let s = c.args.summary.now in
    let possible = c.keeps.ensures in
    let run = run_or_zeros s.six.1.1.1.0 in
    let within = run_within s.six.1.1.1.0 s.count possible.within.1.1.1.0 in
    rw (
      c.count.ensures.value,
      c.mark.ensures,
      c.from.ensures,
      c.unwrap_or.ensures,
      c.bits.ensures,
      c.bits-2.ensures,
      c.halves-total.ensures.low,
      c.halves-total.ensures.high,
      c.halves-prefix.ensures.low,
      c.halves-prefix.ensures.high,
      c.halves-suffix.ensures.low,
      c.halves-suffix.ensures.high,
      c.halves-most.ensures.low,
      c.halves-most.ensures.high,
      c.run_of-run.ensures,
      c.from-2.ensures,
      c.from-3.ensures,
      c.from_le_bytes.ensures,
      c.from_le_bytes-2.ensures,
      c.from_le_bytes-3.ensures,
      c.from_le_bytes-4.ensures,
      c.from_le_bytes-5.ensures,
      c.edit-edit.ensures,
      c.leads.ensures,
      c.six-sum.ensures,
      to_z-of_z w128 run.total (total_fits s.count run.total possible.few within.total),
      to_z-of_z w128 run.prefix (total_fits s.count run.prefix possible.few within.prefix),
      to_z-of_z w128 run.suffix (total_fits s.count run.suffix possible.few within.suffix),
      to_z-of_z w128 run.best (total_fits s.count run.best possible.few within.best),
    ) refl
