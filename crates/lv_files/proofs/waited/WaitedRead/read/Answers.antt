-- Proof of `WaitedRead::read`.
use Rattle.lv_files.proofs.WaitedStreams.{keeps_both, keeps_itself}
use Rattle.lv_files.proofs.waited.WaitedRead.read.Goals as goal

pub loop-times-init : goal.loop-times-init
loop-times-init g c = keeps_itself _

pub loop-times-preserved : goal.loop-times-preserved
loop-times-preserved g c = keeps_both _ _ _ c.loop-times.invariant c.in-Err.ensures.bytes

pub returns-in_default-clause-bytes : goal.returns-in_default-clause-bytes
returns-in_default-clause-bytes g c = keeps_both _ _ _ c.loop-times.invariant c.in-Err.ensures.bytes
