-- Proof of `Live::refresh`: does jobs in place, the least first, at most so many: each is claimed, run and delivered.
use Rattle.lv_live.proofs.live.Live.refresh.Goals as goal

pub returns-clause-turns : goal.returns-clause-turns
returns-clause-turns g c = rw c.complete.ensures at c.take_turns.ensures.turns

pub returns-clause-remembers : goal.returns-clause-remembers
returns-clause-remembers g c = rw c.complete.ensures at c.take_turns.ensures.remembers
