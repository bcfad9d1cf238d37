-- Proof of `finish`: writes what is buffered, and a transcript's last line.
use Rattle.lv_transcript.specs.Transcribing.{state_with}
use Rattle.lv_hub.proofs.LogLaws.{finished_log, finished_transcript}
use Rattle.lv_hub.proofs.operation_log.finish.Goals as goal

pub returns-then-is_log-clause-ends : goal.returns-then-is_log-clause-ends
returns-then-is_log-clause-ends g c =
    finished_log c.args.is_log (state_with (g.W.Write.contents c.args.writer.now) c.args.transcript) (g.W.Write.contents c.finish_log.new.writer) c.finish_log.result c.if-is_log.true c.finish_log.ensures.ends

pub returns-else-is_log-clause-ends : goal.returns-else-is_log-clause-ends
returns-else-is_log-clause-ends g c =
    finished_transcript c.args.is_log (state_with (g.W.Write.contents c.args.writer.now) c.args.transcript) (g.W.Write.contents c.end.new.writer) c.end.result c.if-is_log.false c.end.ensures.ends
