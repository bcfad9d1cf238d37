-- Proof of `OperationLog::end`: writes what is buffered after all updates of the hub, which were recorded before, and a transcript's last line,
-- and returns the writer.
use Rattle.std.proofs.Common.{◌≡◌, arith, length, subst, sym}
use mathlib.Core.List.{IsPrefix}
use Rattle.lv_lines.specs.declared.fault.Fault.TheVariants.{WriteFault}
use Rattle.lv_transcript.specs.Transcribing.{state_with}
use Rattle.lv_hub.specs.Logging.{LogState}
use Rattle.lv_hub.proofs.LogLaws.{in_file_ends, in_file_ends_short}
use Rattle.lv_hub.proofs.operation_log.OperationLog.end.Goals as goal
use Rattle.lv_hub.proofs.operation_log.OperationLog.end.Goals.{then-not-self, else-not-self}

-- not all updates were recorded
pub returns-then-not-is_whole-clause-ends : goal.returns-then-not-is_whole-clause-ends
returns-then-not-is_whole-clause-ends g c =
    let self = c.self.inside in
    let s : LogState = record { written = state_with (g.W.Write.contents self.writer) self.transcript; seen = self.prefix; taken = self.taken } in
    let begins = subst (λ (l : LogState). IsPrefix l.seen c.args.edits.now) (sym c.self.view_is) c.requires in
    in_file_ends_short g.W.LogWriter.made g.N.Naming.limits g.N.Naming.numbers g.K.Begun.there g.K.Begun.start self.renewed self.elements self.earlier self.is_log s c.args.edits.now (g.W.Write.contents c.finish-ended.new.writer)
    c.finish-ended.result WriteFault c.self.invariant.0 begins
    (λ entries given. c.finish-ended.ensures.ends c.self.invariant.0.file.there c.self.invariant.0.file.begun entries c.self.invariant.0.behind given)

-- all were recorded
pub returns-clause-ends : goal.returns-clause-ends
returns-clause-ends g c =
    let self = c.self.inside in
    let s : LogState = record { written = state_with (g.W.Write.contents self.writer) self.transcript; seen = self.prefix; taken = self.taken } in
    let begins = subst (λ (l : LogState). IsPrefix l.seen c.args.edits.now) (sym c.self.view_is) c.requires in
    let all : length self.prefix ≡ length c.args.edits.now = elim c.if-not-self.branch [ then-not-self w ↦ grind arith | else-not-self w ↦ grind arith ] in
    in_file_ends g.W.LogWriter.made g.N.Naming.limits g.N.Naming.numbers g.K.Begun.there g.K.Begun.start self.renewed self.elements self.earlier self.is_log s c.args.edits.now (g.W.Write.contents c.finish-ended.new.writer)
    c.finish-ended.result c.self.invariant.0 begins all
    (λ entries given. c.finish-ended.ensures.ends c.self.invariant.0.file.there c.self.invariant.0.file.begun entries c.self.invariant.0.behind given)
