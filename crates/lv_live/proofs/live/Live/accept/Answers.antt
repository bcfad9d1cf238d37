-- Proof of `Live::accept`: delivers an outcome: it is stale, or held already, or its summary is installed.
use Rattle.std.proofs.Common.{◌∙◌, sym, ap}
use Rattle.lv_refresh.specs.Contents.{fold_of_contents}
use Rattle.lv_live.proofs.DeliverLaws.{delivered, live_after_accept}
use Rattle.lv_live.proofs.RememberLaws.{fresh_after_delivery}
use Rattle.lv_live.proofs.live.Live.accept.Goals as goal

pub invariant_of-self : goal.invariant_of-self
invariant_of-self g c =
    let vouched = rw (← c.self.view_is) at (rw (← c.node-node.ensures.value) at (rw (← c.version.ensures) at c.requires)) in
    let hints = c.hint_parent.ensures in
    live_after_accept (g.B.Body.operations c.self.inside.body) (g.B.Body.is_within c.self.inside.body) (g.B.Body.laws c.self.inside.body) _ c.self.invariant c.install-accepted.new.self c.hint_parent.new.self
    c.node-node.result c.version.result c.args.outcome.contents c.summary.result _ vouched c.in-Installed.ensures.answer c.in-Installed.ensures.after
    (λ same. c.summary.ensures ∙ ap (λ o. fold_of_contents o c.args.outcome.contents) (sym (g.B.Body.decided c.self.inside.body c.args.outcome.body same)))
    record { claimed = hints.claimed; hints = hints.hints; blocks = hints.blocks }

pub returns-in-Installed-clause-delivered : goal.returns-in-Installed-clause-delivered
returns-in-Installed-clause-delivered g c =
    rw (← c.self.view_is) (rw (← c.node-node.ensures.value) (rw (← c.version.ensures)
    (delivered (g.B.Body.operations c.self.inside.body) (g.B.Body.is_within c.self.inside.body) (g.B.Body.laws c.self.inside.body) _ c.self.invariant c.install-accepted.new.self c.hint_parent.new.self
    c.node-node.result c.version.result c.summary.result c.install-accepted.result c.hint_parent.ensures.claimed c.install-accepted.ensures.after)))

pub returns-in-Installed-clause-remembers : goal.returns-in-Installed-clause-remembers
returns-in-Installed-clause-remembers g c =
    rw (← c.self.view_is) (λ n fresh whole touched. fresh_after_delivery _ c.install-accepted.new.self _ _ _ _ c.in-Installed.ensures.answer c.in-Installed.ensures.after n fresh)
