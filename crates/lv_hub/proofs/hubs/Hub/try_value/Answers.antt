-- Proof of `Hub::try_value`: returns what `value` does, and keeps the answer for the log, if there is one. `entry` becomes its number among the
-- log's entries: the log must have been written up to it before the answer is sent.
use Rattle.std.proofs.Common.{◌≡◌, rules}
use mathlib.Core.List.{IsPrefix}
use Rattle.lv_hub.proofs.ToldLaws.{value_number, value_told}
use Rattle.lv_hub.proofs.hubs.Hub.try_value.Goals as goal

-- it was answered by the desk in the lock
pub returns-clause-told : goal.returns-clause-told
returns-clause-told g c =
    let edits = c.deref_mut-2.result.now.edits in
    let seen : IsPrefix c.args.share.now.seen c.show.new.share.seen = search rules in
    let is : c.show.new.share.seen ≡ edits = search rules in
    value_told g.N.Naming.limits edits _ _ c.args.kind c.args.lo c.args.hi c.value_logged-answer.result c.value_logged-answer.ensures.within seen is c.value_logged-answer.ensures.ok c.value_logged-answer.ensures.err

pub returns-clause-number : goal.returns-clause-number
returns-clause-number g c =
    let edits = c.deref_mut-2.result.now.edits in
    let is : c.show.new.share.seen ≡ edits = search rules in
    value_number g.N.Naming.limits edits _ c.value_logged-answer.result is c.value_logged-answer.ensures.number
