-- Proof of `write_whole`: writes all of the bytes, and flushes.
use Rattle.std.proofs.Common.{take, sym}
use Rattle.std.proofs.lemmas.List.{take-append-drop}
use Rattle.lv_lines.proofs.OutputLemmas.{Writes-sent_more}
use Rattle.lv_lines.proofs.output.write_whole.Goals as goal

pub loop-rest-preserved : goal.loop-rest-preserved
loop-rest-preserved g c =
    let rest = c.loop-rest.rest.now in
    let count = c.in-Ok.count in
    rw c.split_at.ensures.back (Writes-sent_more (take count rest) c.loop-rest.invariant c.in-Ok.ensures.bytes (sym (take-append-drop count rest)))
