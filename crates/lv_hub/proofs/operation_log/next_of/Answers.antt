-- Proof of `next_of`: what must come next for a log that was given this prefix and `taken` entries, if its file was begun anew after `renewed`
-- updates with this number of elements.
use Rattle.std.proofs.Common.{arith}
use Rattle.lv_hub.proofs.LogLaws.{renewed_length}
use Rattle.lv_hub.proofs.operation_log.next_of.Goals as goal

pub returns-clause-from : goal.returns-clause-from
returns-clause-from g c =
    omega (arith, c.requires.some, c.requires.elements, c.count.ensures.count, renewed_length c.args.renewed c.args.prefix.now)
