-- Proof of `write_by`: writes a transcript by a writer that was given nothing yet.
use Rattle.lv_transcript.specs.Transcribing.{state_with}
use Rattle.lv_transcript.proofs.TranscribedFronts.{transcribed}
use Rattle.lv_transcript.proofs.transcripts.write_by.Goals as goal

pub returns-clause-text : goal.returns-clause-text
returns-clause-text g c =
    let contents = g.W.Write.contents in
    transcribed c.args.edits.now c.args.answers.now (state_with (contents c.args.writer.now) c.args.transcript) (state_with (contents c.edits.new.writer) c.edits.new.self)
    (state_with (contents c.answers.new.writer) c.answers.new.self) (contents c.end.new.writer) c.end.result (c.requires (contents c.args.writer.now)) c.edits.ensures.added c.answers.ensures c.end.ensures.ends c.end.ensures.fault
