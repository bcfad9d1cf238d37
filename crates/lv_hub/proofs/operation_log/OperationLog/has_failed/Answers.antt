-- Proof of `OperationLog::has_failed`: whether a write has failed, or something wasn't recorded.
use Rattle.std.proofs.Common.{subst}
use Rattle.lv_transcript.specs.Transcribing.{state_with}
use Rattle.lv_hub.specs.Logging.{HasFrontOfFile, LogState}
use Rattle.lv_hub.proofs.LogLaws.{in_file_front}
use Rattle.lv_hub.proofs.operation_log.OperationLog.has_failed.Goals as goal

pub returns-then-self-clause-front : goal.returns-then-self-clause-front
returns-then-self-clause-front g c =
    let self = c.self.inside in
    let s : LogState = record { written = state_with (g.W.Write.contents self.writer) self.transcript; seen = self.prefix; taken = self.taken } in
    subst (λ (l : LogState). HasFrontOfFile g.W.LogWriter.made g.N.Naming.limits g.N.Naming.numbers g.K.Begun.there g.K.Begun.start l.written.contents l.seen) c.self.view_is
    (in_file_front g.W.LogWriter.made g.N.Naming.limits g.N.Naming.numbers g.K.Begun.there g.K.Begun.start self.renewed self.elements self.earlier self.is_log s c.self.invariant.0)

pub returns-else-self-clause-front : goal.returns-else-self-clause-front
returns-else-self-clause-front g c =
    let self = c.self.inside in
    let s : LogState = record { written = state_with (g.W.Write.contents self.writer) self.transcript; seen = self.prefix; taken = self.taken } in
    subst (λ (l : LogState). HasFrontOfFile g.W.LogWriter.made g.N.Naming.limits g.N.Naming.numbers g.K.Begun.there g.K.Begun.start l.written.contents l.seen) c.self.view_is
    (in_file_front g.W.LogWriter.made g.N.Naming.limits g.N.Naming.numbers g.K.Begun.there g.K.Begun.start self.renewed self.elements self.earlier self.is_log s c.self.invariant.0)
