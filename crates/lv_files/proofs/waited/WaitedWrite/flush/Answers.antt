-- Proof of `WaitedWrite::flush`.
use Rattle.lv_files.proofs.WaitedStreams.{keeps_both, keeps_itself}
use Rattle.lv_files.proofs.waited.WaitedWrite.flush.Goals as goal

pub loop-times-init : goal.loop-times-init
loop-times-init g c = keeps_itself _

pub loop-times-preserved : goal.loop-times-preserved
loop-times-preserved g c = keeps_both _ _ _ c.loop-times.invariant c.in-Err.ensures.bytes

pub returns-in_default : goal.returns-in_default
returns-in_default g c = record { bytes = keeps_both _ _ _ c.loop-times.invariant c.in-Err.ensures.bytes }
