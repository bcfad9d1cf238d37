-- Proof of `is_version_3`: whether a file of version 3 begins so.
use Rattle.std.proofs.Common.{ℕ, List, take, ap, ◌∙◌}
use Rattle.std.specs.Str.{bytes_eq}
use Rattle.lv_transcript.specs.Seals.{is_version_3}
use Rattle.lv_transcript.proofs.unsealer.is_version_3.Goals as goal

pub returns : goal.returns
unfolding is_version_3
returns c = c.eq.ensures ∙ ap (λ (bs : List ℕ). bytes_eq bs c.as_slice.result.now) c.front.ensures.value ∙ ap (bytes_eq (take 10 c.args.bytes.now)) c.as_slice.ensures
