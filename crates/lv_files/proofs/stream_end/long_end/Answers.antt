-- Proof of `long_end`.
use Rattle.std.proofs.Common.{refl, replicate}
use Rattle.lv_files.proofs.StreamEndLaws.{long_is_bad}
use Rattle.lv_files.proofs.stream_end.long_end.Goals as goal

pub returns : goal.returns
returns c = long_is_bad (replicate 121 63) refl refl
