-- Proof of `with_first_line`: the transcript writer of `unused`, after it has written a transcript's first line.
use Rattle.std.proofs.Common.{[]}
use Rattle.lv_transcript.specs.Logs.{heading_of, there_of}
use Rattle.lv_hub.proofs.operation_log.with_first_line.Goals as goal

pub returns-clause-given : goal.returns-clause-given
returns-clause-given g c =
    let start = g.W.Write.contents c.args.writer.now in
    λ log same. c.flush.ensures.rests (heading_of log) (there_of log) start [] (c.in_ok-transcript.ensures log same start)
