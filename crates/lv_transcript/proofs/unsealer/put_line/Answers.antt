-- Proof of `put_line`: puts what a line of a file is in its text.
use Rattle.lv_transcript.proofs.UnsealLaws.{told_sealed, told_unsealed}
use Rattle.lv_transcript.proofs.unsealer.put_line.Goals as goal

pub overflow_sub-line : goal.overflow_sub-line
overflow_sub-line c = (told_sealed c.args.hash c.args.line.now c.in-Some.behind c.in-Some.ensures).0
