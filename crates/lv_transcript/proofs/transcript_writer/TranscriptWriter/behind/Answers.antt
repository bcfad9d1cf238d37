-- Proof of `TranscriptWriter::behind`: one that goes on after the lines of a prefix.
use Rattle.std.proofs.Common.{Some}
use Rattle.lv_transcript.proofs.TranscribedFronts.{unused}
use Rattle.lv_transcript.proofs.transcript_writer.TranscriptWriter.behind.Goals as goal

pub returns : goal.returns
returns c = λ heading there start. unused heading (Some there) start _ c.in_ok-with_capacity.ensures.items
