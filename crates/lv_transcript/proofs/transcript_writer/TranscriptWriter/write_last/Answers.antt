-- Proof of `TranscriptWriter::write_last`: writes the last line after all that was given.
use Rattle.std.proofs.Common.{sym, subst}
use Rattle.lv_lines.specs.declared.fault.Fault.TheVariants.{WriteFault}
use Rattle.lv_transcript.specs.Transcribing.{WasGiven, WriterState, WritingState, state_with}
use Rattle.lv_transcript.proofs.TranscribedFronts.{whole_ends, whole_missed}
use Rattle.lv_transcript.proofs.transcript_writer.TranscriptWriter.write_last.Goals as goal

-- a write had failed before
pub returns-then-self-clause-ends : goal.returns-then-self-clause-ends
returns-then-self-clause-ends g c = λ start entries was. whole_missed start entries (state_with (g.W.Write.contents c.args.writer.now) c.args.self.now) was WriteFault

pub returns-clause-ends : goal.returns-clause-ends
returns-clause-ends g c =
    λ start entries was.
    let contents = g.W.Write.contents c.args.writer.now in
    let s : WritingState = record { contents = contents; held = c.self.inside.held.items; failed = c.self.inside.failed } in
    whole_ends start entries s (subst (λ (w : WriterState). WasGiven start entries (state_with contents w)) (sym c.self.view_is) was) (g.W.Write.contents c.end_by.new.writer) c.end_by.new.held.items c.end_by.result c.if-self.false c.end_by.ensures.ok c.end_by.ensures.fault
