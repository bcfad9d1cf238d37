-- Proof of `Live::push_due`.
use Rattle.std.proofs.Common.{◌∙◌}
use Rattle.lv_live.proofs.BatchLaws.{none_due, one_due}
use Rattle.lv_live.proofs.live.Live.push_due.Goals as goal

pub returns-in_default : goal.returns-in_default
returns-in_default g c =
    rw (← c.self.view_is)
    (none_due (g.B.Body.operations c.self.inside.body) _ c.self.invariant c.args.number c.args.jobs.now.items (rw c.block_at.ensures at c.in_default.ensures.none))

pub returns : goal.returns
returns g c =
    let due = rw c.block_at.ensures at c.in-Some.ensures.some in
    rw (← c.self.view_is)
    (c.in_ok-push.ensures.items
    ∙ rw (c.block.ensures.value) (one_due (g.B.Body.operations c.self.inside.body) _ c.self.invariant c.args.number c.args.jobs.now.items c.in-Some.version due.0 due.1 due.2))
