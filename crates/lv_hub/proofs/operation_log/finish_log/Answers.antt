-- Proof of `finish_log`: writes what is buffered for a log.
use Rattle.std.proofs.Common.{sym, ◌∙◌}
use Rattle.lv_transcript.specs.Transcribing.{state_with}
use Rattle.lv_hub.proofs.LogLaws.{log_unfinished, log_finished}
use Rattle.lv_hub.proofs.operation_log.finish_log.Goals as goal

pub returns-then-has_failed-clause-ends : goal.returns-then-has_failed-clause-ends
returns-then-has_failed-clause-ends g c =
    log_unfinished (state_with (g.W.Write.contents c.args.writer.now) c.args.transcript) (state_with (g.W.Write.contents c.flush.new.writer) c.flush.new.self) c.flush.ensures.rests

pub returns-clause-ends : goal.returns-clause-ends
returns-clause-ends g c =
    let fine = sym c.has_failed.ensures ∙ c.if-has_failed.false in
    log_finished (state_with (g.W.Write.contents c.args.writer.now) c.args.transcript) (state_with (g.W.Write.contents c.flush.new.writer) c.flush.new.self) c.flush.ensures.rests fine (c.flush.ensures.sent fine)
