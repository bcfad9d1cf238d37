-- Proof of `saved_bytes`: how many bytes there are.
use Rattle.std.proofs.Common.{arith}
use Rattle.lv_saved.specs.Saved.{saved_series}
use Rattle.lv_saved.proofs.ReadLaws.{length_bytes}
use Rattle.lv_saved.proofs.saving.saved_bytes.Goals as goal

pub returns : goal.returns
returns c = omega (arith, length_bytes (saved_series c.args.series.now), c.size.ensures, c.first.ensures)
