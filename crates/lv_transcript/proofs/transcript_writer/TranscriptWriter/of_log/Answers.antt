-- Proof of `TranscriptWriter::of_log`: one that begins a log, and was given nothing yet.
use Rattle.std.proofs.Common.{ℕ, List, [], ◌∷◌, ◌++◌, None, Some, ap, sym, ◌∙◌, append-nil}
use Rattle.lv_transcript.specs.Transcript.{log_line}
use Rattle.lv_transcript.proofs.TranscribedFronts.{unused}
use Rattle.lv_transcript.proofs.transcript_writer.TranscriptWriter.of_log.Goals as goal

pub returns-clause-unused : goal.returns-clause-unused
returns-clause-unused c =
    let line = log_line c.args.heading in
    λ start. unused (Some c.args.heading) None start _ (c.put.ensures.items ∙ ap (λ (xs : List ℕ). xs ++ 10 ∷ []) (c.put_heading.ensures.text ∙ ap (λ (xs : List ℕ). xs ++ line) c.in_ok-held.ensures.items) ∙ sym (append-nil (line ++ 10 ∷ [])))
