-- Proof of `Auditor::edit_or_later`: the stage after a line that may be that of an edit.
use Rattle.lv_transcript.specs.Auditing.{state_of}
use Rattle.lv_transcript.proofs.AuditLines.{Becomes-edit, Becomes-no_edit}
use Rattle.lv_transcript.proofs.auditor.Auditor.edit_or_later.Goals as goal

pub returns-in-Some-clause-stage : goal.returns-in-Some-clause-stage
returns-in-Some-clause-stage c =
    let self = c.args.self.now in
    let old = state_of self.mixed self.heading self.stage self.edits self.replay.edit in
    let read = c.in-Some.ensures.edit in
    rw (c.take_edit.ensures.replay, c.take_edit.ensures.heading)
    (Becomes-edit c.args.number old c.args.line.now c.in-Some.edit c.take_edit.result c.take_edit.new.self.edits.journal c.requires read.0 read.1 c.take_edit.ensures.edit)

pub returns-in-None-clause-stage : goal.returns-in-None-clause-stage
returns-in-None-clause-stage c =
    let self = c.args.self.now in
    Becomes-no_edit c.args.number (state_of self.mixed self.heading self.stage self.edits self.replay.edit) _ c.args.line.now c.in-None.ensures.edit c.answer_or_last.ensures.stage
