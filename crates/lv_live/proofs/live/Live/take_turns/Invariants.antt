-- What the loop keeps in `Live::take_turns`: takes turns, at most so many, while a node wants a job.
use Rattle.lv_live.specs.State.{Remembers}
use Rattle.lv_live.specs.Turns.{TakesTurns}
use Rattle.lv_live.proofs.live.Live.take_turns.Given as goal

-- so many turns were taken, and all that was fresh still is
abbrev pub invariant-loop-done : goal.invariant-loop-done
invariant-loop-done g l = TakesTurns (g.B.Body.operations l.fn.self.body) l.fn.self l.self l.done × Remembers l.fn.self l.self
