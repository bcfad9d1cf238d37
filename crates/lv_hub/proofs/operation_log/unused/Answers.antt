-- Proof of `unused`: a transcript writer that was given nothing yet.
use Rattle.std.proofs.lemmas.Result.{IfOk-weaker}
use Rattle.lv_hub.proofs.LogLaws.{unused_log, unused_transcript}
use Rattle.lv_hub.proofs.operation_log.unused.Goals as goal

pub returns-then-is_log : goal.returns-then-is_log
returns-then-is_log c = IfOk-weaker c.behind.result _ _ (unused_log c.args.is_log c.if-is_log.true) c.behind.ensures

pub returns-else-is_log : goal.returns-else-is_log
returns-else-is_log c = IfOk-weaker c.new.result _ _ (unused_transcript c.args.is_log c.if-is_log.false) c.new.ensures
