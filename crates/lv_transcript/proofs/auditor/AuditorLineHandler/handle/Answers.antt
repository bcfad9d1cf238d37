-- Proof of the auditor's `handle`: it takes a line, and answers nothing.
use Rattle.std.proofs.Common.{[], refl}
use Rattle.lv_lines.proofs.OutputLemmas.{Writes-nil}
use Rattle.lv_transcript.specs.Auditing.{CountedStep}
use Rattle.lv_transcript.proofs.auditor.AuditorLineHandler.handle.Goals as goal

pub returns-clause-ok : goal.returns-clause-ok
unfolding CountedStep
returns-clause-ok g c = record {
  reply = [];
  answered = (refl, c.take_line.ensures.lines, rw c.take_line.ensures.mixed c.take_line.ensures.line, c.take_line.ensures.whole);
  written = Writes-nil _ _;
}
