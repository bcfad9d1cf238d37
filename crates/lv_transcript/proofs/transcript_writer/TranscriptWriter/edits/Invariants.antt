-- What the loop keeps in `TranscriptWriter::edits`.
use Rattle.std.proofs.Common.{All, map, take, inl}
use Rattle.lv_edits.specs.Kept.{CarriesElement}
use Rattle.lv_transcript.specs.Transcribing.{Adds, state_with}
use Rattle.lv_transcript.proofs.transcript_writer.TranscriptWriter.edits.Given as goal

-- those so far were given
abbrev pub invariant-loop-edit : goal.invariant-loop-edit
invariant-loop-edit g l =
    record {
      given : Adds (state_with (g.W.Write.contents l.initial.writer) l.initial.self) (map inl (take l.edit-index l.edits)) (state_with (g.W.Write.contents l.writer) l.self);
      elements : All CarriesElement (take l.edit-index l.edits);
    }
