-- Proof of `Live::take_turn`: claims the least node that wants a job, computes its summary without copying its contents, and installs it.
use Rattle.lv_live.proofs.TurnLaws.{live_turned, not_taken, remembers_turned, turn_taken}
use Rattle.lv_live.proofs.live.Live.take_turn.Goals as goal

pub returns-clause-idle : goal.returns-clause-idle
returns-clause-idle g c = λ none. rw (← c.self.view_is) (c.refresh_next.ensures.idle none)

pub returns-clause-same : goal.returns-clause-same
returns-clause-same g c = λ none. rw (← c.self.view_is) (not_taken _ c.refresh_next.new.table c.refresh_next.new.self (c.refresh_next.ensures.same none) (c.refresh_next.ensures.claimed none))

pub invariant_of-self : goal.invariant_of-self
invariant_of-self g c =
    live_turned (g.B.Body.operations c.self.inside.body) (g.B.Body.is_within c.self.inside.body) (g.B.Body.laws c.self.inside.body) _ c.self.invariant c.refresh_next.new.table c.refresh_next.new.self
    c.refresh_next.ensures.hints c.refresh_next.ensures.blocks c.refresh_next.result c.refresh_next.ensures.refreshed c.refresh_next.ensures.same

pub returns-clause-turn : goal.returns-clause-turn
returns-clause-turn g c = λ took.
    rw (← c.self.view_is) (
    turn_taken (g.B.Body.operations c.self.inside.body) (g.B.Body.is_within c.self.inside.body) (g.B.Body.laws c.self.inside.body) _ c.self.invariant c.refresh_next.new.table c.refresh_next.new.self
    c.refresh_next.ensures.hints c.refresh_next.ensures.blocks (c.refresh_next.ensures.refreshed took))

pub returns-clause-remembers : goal.returns-clause-remembers
returns-clause-remembers g c =
    rw (← c.self.view_is) (
    remembers_turned (g.B.Body.operations c.self.inside.body) (g.B.Body.is_within c.self.inside.body) (g.B.Body.laws c.self.inside.body) _ c.self.invariant c.refresh_next.new.table c.refresh_next.new.self
    c.refresh_next.ensures.hints c.refresh_next.ensures.blocks c.refresh_next.result c.refresh_next.ensures.refreshed c.refresh_next.ensures.same)
