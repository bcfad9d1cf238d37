-- What the loop keeps in `TranscriptWriter::pushes`.
use Rattle.std.proofs.Common.{All, map, take}
use Rattle.lv_geometry.specs.Elements.{IsElement}
use Rattle.lv_transcript.specs.Logs.{pushed}
use Rattle.lv_transcript.specs.Transcribing.{Adds, state_with}
use Rattle.lv_transcript.proofs.transcript_writer.TranscriptWriter.pushes.Given as goal

-- those so far were given
abbrev pub invariant-loop-element : goal.invariant-loop-element
invariant-loop-element g l =
    record {
      given : Adds (state_with (g.W.Write.contents l.initial.writer) l.initial.self) (map pushed (take l.element-index l.elements)) (state_with (g.W.Write.contents l.writer) l.self);
      elements : All IsElement (take l.element-index l.elements);
    }
