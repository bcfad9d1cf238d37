-- Proof of `Auditor::next_stage`: the stage after a line.
use Rattle.std.proofs.Common.{inl, arith}
use Rattle.lv_transcript.specs.Auditing.{state_of}
use Rattle.lv_transcript.proofs.AuditLines.{Becomes-at_edits}
use Rattle.lv_transcript.proofs.auditor.Auditor.next_stage.Goals as goal

pub returns-in-Edits-clause-stage : goal.returns-in-Edits-clause-stage
returns-in-Edits-clause-stage c =
    let self = c.args.self.now in
    Becomes-at_edits c.args.number (state_of self.mixed self.heading self.stage self.edits self.replay.edit) _ c.args.line.now (inl c.in-Edits.is) (omega arith) c.edit_or_later.ensures.stage
