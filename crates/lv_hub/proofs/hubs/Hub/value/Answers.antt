-- Proof of `Hub::value`: the plain value of a kind over the elements from index `lo` up to `hi`, at the last update.
use Rattle.std.proofs.Common.{◌≡◌, rules}
use mathlib.Core.List.{IsPrefix}
use Rattle.lv_hub.proofs.ToldLaws.{value_number, value_told}
use Rattle.lv_hub.proofs.hubs.Hub.value.Goals as goal

-- it was answered by the desk in the lock
pub returns-clause-told : goal.returns-clause-told
returns-clause-told g c =
    let edits = c.deref_mut-2.result.now.edits in
    let seen : IsPrefix c.args.share.now.seen c.show.new.share.seen = search rules in
    let is : c.show.new.share.seen ≡ edits = search rules in
    value_told g.N.Naming.limits edits _ _ c.args.kind c.args.lo c.args.hi c.value.result c.value.ensures.within seen is c.value.ensures.ok c.value.ensures.err

pub returns-clause-number : goal.returns-clause-number
returns-clause-number g c =
    let edits = c.deref_mut-2.result.now.edits in
    let is : c.show.new.share.seen ≡ edits = search rules in
    value_number g.N.Naming.limits edits _ c.value.result is c.value.ensures.number
