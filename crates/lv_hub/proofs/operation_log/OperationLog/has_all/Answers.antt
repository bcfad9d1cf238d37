-- Proof of `OperationLog::has_all`: whether all is written, has what a share has seen as a prefix, and has at least this many entries.
use Rattle.std.proofs.Common.{◌≡◌, false, subst, sym}
use Rattle.lv_transcript.specs.Transcribing.{state_with}
use Rattle.lv_hub.specs.Logging.{HasAllOfFile, LogState}
use Rattle.lv_hub.proofs.LogLaws.{in_file_all}
use Rattle.lv_hub.proofs.operation_log.OperationLog.has_all.Goals as goal

pub returns-clause-all : goal.returns-clause-all
returns-clause-all g c = λ _.
    let self = c.self.inside in
    let s : LogState = record { written = state_with (g.W.Write.contents self.writer) self.transcript; seen = self.prefix; taken = self.taken } in
    let well = c.has_failed.ensures.fine c.if-has_failed.false in
    let fine = subst (λ (l : LogState). l.written.failed ≡ false) (sym c.self.view_is) well in
    let none = c.self.invariant.4 fine in
    subst (λ (l : LogState). HasAllOfFile g.W.LogWriter.made g.N.Naming.limits g.N.Naming.numbers g.K.Begun.there g.K.Begun.start l.written.contents l.seen l.taken) c.self.view_is
    (in_file_all g.W.LogWriter.made g.N.Naming.limits g.N.Naming.numbers g.K.Begun.there g.K.Begun.start self.renewed self.elements self.earlier self.is_log s fine none c.self.invariant.0)
