-- Proof of `Live::accept_block`.
use Rattle.std.proofs.Common.{◌≡◌, ◌∙◌, sym, ap}
use Rattle.lv_bodies.specs.Body.{fold_of}
use Rattle.lv_live.proofs.BatchLaws.{live_after_block}
use Rattle.lv_live.proofs.DeliverLaws.{delivered}
use Rattle.lv_live.proofs.live.Live.accept_block.Goals as goal

pub invariant_of-self : goal.invariant_of-self
invariant_of-self g c =
    let fold = rw (← c.job-job.ensures) at c.summary.ensures in
    let hints = c.hint_parent.ensures in
    live_after_block (g.B.Body.operations c.self.inside.body) (g.B.Body.is_within c.self.inside.body) (g.B.Body.laws c.self.inside.body) _ c.self.invariant c.install-accepted.new.self c.hint_parent.new.self
    c.block_at-block.result c.job-job.result.now.number c.job-job.result.now.version c.job-job.result.now.elements c.summary.result (g.B.Body.meaning c.self.inside.body ≡ g.B.Body.meaning c.job-job.result.now.body)
    c.block_at-block.ensures (rw (← c.self.view_is) at (rw (← c.job-job.ensures) at c.requires)) c.in-Installed.ensures.answer c.in-Installed.ensures.after
    (λ same. fold ∙ ap (λ o. fold_of o c.job-job.result.now.elements) (sym (g.B.Body.decided c.self.inside.body c.job-job.result.now.body same)))
    record { claimed = hints.claimed; hints = hints.hints; blocks = hints.blocks }

pub returns-in-Installed-clause-delivered : goal.returns-in-Installed-clause-delivered
returns-in-Installed-clause-delivered g c =
    rw (← c.self.view_is) (rw (← c.job-job.ensures) (rw (← c.block_at-block.ensures)
    (delivered (g.B.Body.operations c.self.inside.body) (g.B.Body.is_within c.self.inside.body) (g.B.Body.laws c.self.inside.body) _ c.self.invariant c.install-accepted.new.self c.hint_parent.new.self
    c.block_at-block.result c.job-job.result.now.version c.summary.result c.install-accepted.result c.hint_parent.ensures.claimed c.install-accepted.ensures.after)))
