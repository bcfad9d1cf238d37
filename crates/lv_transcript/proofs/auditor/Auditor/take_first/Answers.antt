-- Proof of `Auditor::take_first`: the stage after a line that should be the first.
use Rattle.lv_transcript.specs.Auditing.{state_of}
use Rattle.lv_transcript.proofs.AuditLines.{Becomes-begun, Becomes-unbegun}
use Rattle.lv_transcript.proofs.auditor.Auditor.take_first.Goals as goal

pub returns-in-Some-clause-stage : goal.returns-in-Some-clause-stage
returns-in-Some-clause-stage c =
    let self = c.args.self.now in
    Becomes-begun c.args.number (state_of self.mixed self.heading self.stage self.edits self.replay.edit) c.args.line.now c.in-Some.heading c.requires.stage c.requires.short c.in-Some.ensures.first

pub returns-in-None-clause-stage : goal.returns-in-None-clause-stage
returns-in-None-clause-stage c =
    let self = c.args.self.now in
    Becomes-unbegun c.args.number (state_of self.mixed self.heading self.stage self.edits self.replay.edit) c.args.line.now c.requires.stage c.in-None.ensures.first
