-- Proof of `OperationLog::vector_edits`: how many updates the vector has, counting those that were recorded.
use Rattle.lv_transcript.specs.Transcribing.{state_with}
use Rattle.lv_hub.specs.Logging.{LogState}
use Rattle.lv_hub.proofs.LogLaws.{in_file_elements, in_file_some}
use Rattle.lv_hub.proofs.operation_log.OperationLog.vector_edits.Goals as goal

pub next_of-next-requires-clause-some : goal.next_of-next-requires-clause-some
next_of-next-requires-clause-some g c =
    let self = c.self.inside in
    let s : LogState = record { written = state_with (g.W.Write.contents self.writer) self.transcript; seen = self.prefix; taken = self.taken } in
    in_file_some g.W.LogWriter.made g.N.Naming.limits g.N.Naming.numbers g.K.Begun.there g.K.Begun.start self.renewed self.elements self.earlier self.is_log s c.self.invariant.0

pub next_of-next-requires-clause-elements : goal.next_of-next-requires-clause-elements
next_of-next-requires-clause-elements g c =
    let self = c.self.inside in
    let s : LogState = record { written = state_with (g.W.Write.contents self.writer) self.transcript; seen = self.prefix; taken = self.taken } in
    in_file_elements g.W.LogWriter.made g.N.Naming.limits g.N.Naming.numbers g.K.Begun.there g.K.Begun.start self.renewed self.elements self.earlier self.is_log s c.self.invariant.0
