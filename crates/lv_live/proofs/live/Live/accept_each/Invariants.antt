-- What the loop keeps in `Live::accept_each`.
use Rattle.std.proofs.Common.{◌≡◌, take}
use Rattle.lv_live.specs.Batches.{DeliversFrom, all_told, none_told}
use Rattle.lv_live.proofs.live.Live.accept_each.Given as goal

-- the outcomes so far were taken in, each counted once, and body and history are as they were
abbrev pub invariant-loop-outcome : goal.invariant-loop-outcome
invariant-loop-outcome g l =
    DeliversFrom (g.B.Body.operations l.fn.self.body) (λ body. g.B.Body.meaning l.fn.self.body ≡ g.B.Body.meaning body) (take l.outcome-index l.outcomes) l.fn.self l.self none_told l.told
    × (all_told l.told ≡ l.outcome-index)
    × (l.self.body ≡ l.fn.self.body)
    × (l.self.history ≡ l.fn.self.history)
