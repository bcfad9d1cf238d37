-- Proof of `Live::accept_subtree`: keeps all summaries of a subtree's outcome, if what its job carried is current.
use Rattle.std.proofs.Common.{◌≡◌}
use Rattle.lv_live.proofs.SubtreeLaws.{taken_has, taken_live, taken_remembers}
use Rattle.lv_live.proofs.live.Live.accept_subtree.Goals as goal

pub invariant_of-self : goal.invariant_of-self
invariant_of-self g c =
    let passed = c.pass_subtree.ensures in
    taken_live (g.B.Body.operations c.self.inside.body) g.B.Body.operations (λ body. g.B.Body.meaning c.self.inside.body ≡ g.B.Body.meaning body) (λ body same. g.B.Body.decided c.self.inside.body body same) _ c.self.invariant
    c.install.new.table c.pass_subtree.new.self c.args.outcome.now c.in-Some.number (rw (← c.self.view_is) at c.in-Some.ensures.some) c.install.ensures.keeps
    record { claimed = passed.claimed; hints = passed.hints; blocks = passed.blocks }

pub returns-clause-kept : goal.returns-clause-kept
returns-clause-kept g c =
    let passed = c.pass_subtree.ensures in
    rw (← c.self.view_is) (λ yes. taken_has (g.B.Body.operations c.self.inside.body) g.B.Body.operations (λ body. g.B.Body.meaning c.self.inside.body ≡ g.B.Body.meaning body) (λ body same. g.B.Body.decided c.self.inside.body body same) _ c.self.invariant
    c.install.new.table c.pass_subtree.new.self c.args.outcome.now c.in-Some.number (rw (← c.self.view_is) at c.in-Some.ensures.some) c.install.ensures.keeps
    record { claimed = passed.claimed; hints = passed.hints; blocks = passed.blocks })

pub returns-clause-remembers : goal.returns-clause-remembers
returns-clause-remembers g c =
    let passed = c.pass_subtree.ensures in
    rw (← c.self.view_is) (taken_remembers (g.B.Body.operations c.self.inside.body) g.B.Body.operations (λ body. g.B.Body.meaning c.self.inside.body ≡ g.B.Body.meaning body) (λ body same. g.B.Body.decided c.self.inside.body body same) _ c.self.invariant
    c.install.new.table c.pass_subtree.new.self c.args.outcome.now c.in-Some.number (rw (← c.self.view_is) at c.in-Some.ensures.some) c.install.ensures.keeps
    record { claimed = passed.claimed; hints = passed.hints; blocks = passed.blocks })
