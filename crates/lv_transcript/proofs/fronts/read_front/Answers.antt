-- Proof of `read_front`: reads an input to its end as a prefix of a transcript.
use Rattle.std.proofs.Common.{[], arith}
use Rattle.std.proofs.KnownBytes.{Consumes-nil}
use Rattle.lv_transcript.specs.Auditing.{counted_at}
use Rattle.lv_transcript.specs.Seals.{text_of}
use Rattle.lv_transcript.proofs.AuditLaws.{as_front, front_stopped, read_front}
use Rattle.lv_transcript.proofs.fronts.read_front.Goals as goal

pub returns-in_default : goal.returns-in_default
returns-in_default g c = (text_of (g.R.Read.remaining c.args.reader), record { seen = []; read = Consumes-nil _; few = omega arith; ends = tt })

pub returns-in_default-new : goal.returns-in_default-new
returns-in_default-new g c = (text_of (g.R.Read.remaining c.args.reader), record { seen = []; read = Consumes-nil _; few = omega arith; ends = tt })

pub returns-then-is_at_end : goal.returns-then-is_at_end
returns-then-is_at_end g c =
    let old = c.in-Ok.auditor in
    let new = c.serve_lines.new.handler in
    let lines_served = rw c.in-Err-ReadFault.field-0-is at c.in-Err-ReadFault.ensures.served in
    as_front c.args.most _ _ c.in-Ok-new.ensures c.found.result
    (read_front (counted_at old.mixed old.heading old.stage old.edits old.replay.edit old.lines old.whole) (Unit {0}) c.args.most new.mixed new.heading new.stage new.edits new.replay.edit new.lines new.whole c.found.result
    c.in-Ok.ensures c.requires lines_served (c.is_at_end.ensures c.if-is_at_end.true) c.found.ensures.found)

-- the reading stopped
pub returns-in-Err : goal.returns-in-Err
returns-in-Err g c =
    let old = c.in-Ok.auditor in
    let new = c.serve_lines.new.handler in
    front_stopped c.args.most _ _ c.in-Ok-new.ensures (counted_at old.mixed old.heading old.stage old.edits old.replay.edit old.lines old.whole) (counted_at new.mixed new.heading new.stage new.edits new.replay.edit new.lines new.whole) (Unit {0}) c.in-Err.fault c.in-Err.ensures.served
