-- Proof of `Hub::finish`: returns what `close` does, together with all updates of the hub.
use Rattle.std.proofs.Common.{subst, sym}
use mathlib.Core.List.{IsPrefix}
use Rattle.lv_hub.proofs.ToldLaws.{closed_as}
use Rattle.lv_hub.proofs.hubs.Hub.finish.Goals as goal

-- it is what the desk had
pub returns-clause-seen : goal.returns-clause-seen
returns-clause-seen g c = subst (IsPrefix c.args.share.seen) (sym c.finish.ensures.edits) c.finish.ensures.seen

pub returns-clause-closed : goal.returns-clause-closed
returns-clause-closed g c = closed_as g.N.Naming.limits _ _ _ _ c.finish.ensures.edits c.finish.ensures.same c.finish.ensures.closed
