-- What the loop keeps in `TranscriptWriter::answers`.
use Rattle.std.proofs.Common.{map, take, inr}
use Rattle.lv_transcript.specs.Transcribing.{Adds, state_with}
use Rattle.lv_transcript.proofs.transcript_writer.TranscriptWriter.answers.Given as goal

-- those so far were given
abbrev pub invariant-loop-answer : goal.invariant-loop-answer
invariant-loop-answer g l =
    Adds (state_with (g.W.Write.contents l.initial.writer) l.initial.self) (map inr (take l.answer-index l.answers)) (state_with (g.W.Write.contents l.writer) l.self)
