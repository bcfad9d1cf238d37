-- Proof of `write_transcript`: writes the transcript of a journal and of the answers of it.
use Rattle.lv_transcript.proofs.TranscribedFronts.{sound_text}
use Rattle.lv_transcript.proofs.transcripts.write_transcript.Goals as goal
use Rattle.std.proofs.lemmas.Result.{on_ok_weaker}

pub returns-in-Ok-clause-sound : goal.returns-in-Ok-clause-sound
returns-in-Ok-clause-sound g c = λ accepted holds. on_ok_weaker c.write_by.result (λ elements. sound_text c.args.edits.now c.args.answers.now elements c.requires accepted holds) c.write_by.ensures.elements
