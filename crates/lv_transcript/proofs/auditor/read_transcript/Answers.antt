-- Proof of `read_transcript`: reads an input to its end as a transcript.
use Rattle.std.proofs.Common.{[], lit≤}
use Rattle.std.proofs.KnownBytes.{Consumes-nil}
use Rattle.std.proofs.lemmas.Result.{err_from_is_err_and}
use Rattle.lv_lines.specs.Replies.{most_read}
use Rattle.lv_transcript.specs.Auditing.{counted_at}
use Rattle.lv_transcript.specs.Audits.{IsRight}
use Rattle.lv_transcript.proofs.AuditLaws.{read_stopped, read_transcript}
use Rattle.lv_transcript.proofs.auditor.read_transcript.Goals as goal

pub returns-in_default : goal.returns-in_default
returns-in_default g c = record { seen = []; read = Consumes-nil _; few = lit≤ tt; ends = tt }

pub returns-in_err-serve_lines : goal.returns-in_err-serve_lines
returns-in_err-serve_lines g c =
    let p = err_from_is_err_and c.from_residual.result c.from_residual.ensures.1 in
    let old = c.in-Ok.auditor in
    let new = c.serve_lines.new.handler in
    rw (p.1, p.2)
    (read_stopped most_read IsRight (Unit {0}) (counted_at old.mixed old.heading old.stage old.edits old.replay.edit old.lines old.whole) (counted_at new.mixed new.heading new.stage new.edits new.replay.edit new.lines new.whole) _ c.in_err-serve_lines.ensures.served)

pub returns : goal.returns
returns g c =
    let old = c.in-Ok.auditor in
    let new = c.serve_lines.new.handler in
    read_transcript (counted_at old.mixed old.heading old.stage old.edits old.replay.edit old.lines old.whole) _ (counted_at new.mixed new.heading new.stage new.edits new.replay.edit new.lines new.whole) c.verdict.result c.in-Ok.ensures c.in_ok-serve_lines.ensures.served c.verdict.ensures
