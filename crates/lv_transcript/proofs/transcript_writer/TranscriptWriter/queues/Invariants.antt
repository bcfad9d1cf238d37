-- What the loop keeps in `TranscriptWriter::queues`.
use Rattle.std.proofs.Common.{◌≡◌, List, ◌++◌, length, map, inr}
use Rattle.lv_transcript.specs.declared.claimed.Claimed.{Claimed}
use Rattle.lv_transcript.specs.Joined.{joined}
use Rattle.lv_transcript.specs.Transcribing.{Adds, state_with}
use Rattle.lv_transcript.proofs.transcript_writer.TranscriptWriter.queues.Given as goal

-- the answers that were taken so far were given
abbrev pub invariant-loop-answer : goal.invariant-loop-answer
invariant-loop-answer g l =
    record {
      done : List Claimed;
      parts : joined l.initial.queues.items ≡ done ++ joined l.queues.items;
      given : Adds (state_with (g.W.Write.contents l.initial.writer) l.initial.self) (map inr done) (state_with (g.W.Write.contents l.writer) l.self);
    }

abbrev pub decreases-loop-answer : goal.decreases-loop-answer
decreases-loop-answer g l = length (joined l.queues.items)
