-- Proof of `seal`: bytes, and then those of their checksum.
use Rattle.std.proofs.Common.{◌++◌, ap, ◌∙◌}
use Rattle.std.specs.Int.{w64, to_le_bytes}
use Rattle.lv_shards.specs.Bytes.{sealed_by}
use Rattle.lv_shards.proofs.Written.{sealed}
use Rattle.lv_shards.proofs.numbers.seal.Goals as goal

pub returns : goal.returns
unfolding sealed_by
returns c =
    let part = c.copy_from_slice-2.ensures.after ∙ c.to_le_bytes.ensures ∙ ap (to_le_bytes w64) c.checksum.ensures in
    rw c.copy_from_slice.ensures.after (sealed c.args.payload.now c.copy_from_slice-2.new.self c.told-payload ∙ ap (λ b. c.args.payload.now ++ b) part)
