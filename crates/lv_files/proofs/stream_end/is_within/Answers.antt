-- Proof of `is_within`.
use Rattle.std.proofs.Common.{sym}
use Rattle.lv_files.proofs.StreamEndLaws.{ends_within-last}
use Rattle.lv_files.proofs.stream_end.is_within.Goals as goal

pub returns-in-Some : goal.returns-in-Some
returns-in-Some c = sym (ends_within-last c.args.begun c.args.bytes.now c.in-Some.byte.now (sym c.in-Some.ensures.value))
