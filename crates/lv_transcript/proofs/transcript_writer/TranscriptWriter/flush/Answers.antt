-- Proof of `TranscriptWriter::flush`: writes all that is held, and flushes the writer.
use Rattle.std.proofs.Common.{true, [], subst}
use Rattle.lv_lines.proofs.OutputLemmas.{Writes-sent}
use Rattle.lv_transcript.specs.Transcribing.{Adds, WriterState, state_with}
use Rattle.lv_transcript.proofs.TranscribedFronts.{adds_failure, adds_none, adds_nothing}
use Rattle.lv_transcript.proofs.transcript_writer.TranscriptWriter.flush.Goals as goal

pub returns-then-self-clause-rests : goal.returns-then-self-clause-rests
returns-then-self-clause-rests g c = adds_nothing (state_with (g.W.Write.contents c.args.writer.now) c.args.self.now)

pub returns-in-Ok-clause-rests : goal.returns-in-Ok-clause-rests
returns-in-Ok-clause-rests g c =
    let new = state_with (g.W.Write.contents c.send_by.new.writer) (record { held = c.send_by.new.held.items; failed = c.self.inside.failed }) in
    subst (λ (s : WriterState). Adds (state_with (g.W.Write.contents c.args.writer.now) s) [] new) c.self.view_is
    (adds_none _ _ _ _ c.self.inside.failed c.if-self.false (Writes-sent _ _ _ _ c.in-Ok.ensures.ok))

pub returns-in-Err-clause-rests : goal.returns-in-Err-clause-rests
returns-in-Err-clause-rests g c =
    let new = state_with (g.W.Write.contents c.send_by.new.writer) (record { held = c.send_by.new.held.items; failed = true }) in
    subst (λ (s : WriterState). Adds (state_with (g.W.Write.contents c.args.writer.now) s) [] new) c.self.view_is
    (adds_failure _ _ _ _ c.self.inside.failed c.if-self.false c.in-Err.ensures.fault.1)
