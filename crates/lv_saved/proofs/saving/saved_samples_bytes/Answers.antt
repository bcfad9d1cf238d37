-- Proof of `saved_samples_bytes`: how many bytes there are.
use Rattle.std.proofs.Common.{ap, arith, length}
use Rattle.lv_saved.specs.Saved.{saved_samples}
use Rattle.lv_saved.proofs.ReadLaws.{length_bytes}
use Rattle.lv_saved.proofs.saving.saved_samples_bytes.Goals as goal

pub returns : goal.returns
returns c =
    let same = c.series-series.ensures in
    omega (arith, length_bytes (saved_samples c.args.samples.now), c.holds.ensures.paired, c.size.ensures, c.first.ensures, ap (λ s. s.held.first) same, ap (λ s. length s.held.elements) same)
