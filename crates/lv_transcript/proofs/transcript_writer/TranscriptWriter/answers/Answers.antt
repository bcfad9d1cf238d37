-- Proof of `TranscriptWriter::answers`.
use Rattle.std.proofs.Common.{inr, arith}
use Rattle.lv_bodies.specs.declared.kinds.Kind.TheVariants.{Sum}
use Rattle.lv_bodies.specs.declared.kinds.Shown.TheVariants as shown
use Rattle.lv_transcript.specs.declared.claimed.Claimed.{Claimed}
use Rattle.lv_transcript.proofs.TranscribedFronts.{adds_next}
use Rattle.lv_transcript.proofs.transcript_writer.TranscriptWriter.answers.Goals as goal

-- a default for an index past the end
abbrev first : Claimed
first = record { edit = 0; kind = Sum; lo = 0; hi = 0; value = shown.Sum 0 }

pub loop-answer-preserved : goal.loop-answer-preserved
loop-answer-preserved g c = adds_next inr c.args.answers.now c.loop-answer.answer-index first _ _ _ (omega arith) c.loop-answer.invariant c.answer.ensures.added
