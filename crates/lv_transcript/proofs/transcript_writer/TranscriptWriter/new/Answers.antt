-- Proof of `TranscriptWriter::new`: one that was given nothing yet.
use Rattle.std.proofs.Common.{ℕ, List, [], ◌∷◌, ◌++◌, None, ap, ◌∙◌}
use Rattle.lv_transcript.specs.Transcript.{first_line}
use Rattle.lv_transcript.proofs.TranscribedFronts.{unused}
use Rattle.lv_transcript.proofs.transcript_writer.TranscriptWriter.new.Goals as goal

pub returns : goal.returns
returns c = λ start. unused None None start _ (c.put.ensures.items ∙ ap (λ (xs : List ℕ). xs ++ (first_line ++ 10 ∷ [])) c.in_ok-held.ensures.items)
