-- Proof of `Live::take_block_turns`: takes turns of blocks, at most so many, while many neighbouring blocks want a job.
use Rattle.lv_live.proofs.TurnLaws.{each_taken, live_swept}
use Rattle.lv_live.proofs.live.Live.take_block_turns.Goals as goal

pub invariant_of-self : goal.invariant_of-self
invariant_of-self g c =
    live_swept (g.B.Body.operations c.self.inside.body) _ c.self.invariant c.refresh_blocks.new.table c.refresh_blocks.new.self
    c.refresh_blocks.ensures.agrees c.refresh_blocks.ensures.hints c.refresh_blocks.ensures.blocks

pub returns-clause-turns : goal.returns-clause-turns
returns-clause-turns g c =
    rw (← c.self.view_is) (each_taken (g.B.Body.operations c.self.inside.body) _ c.refresh_blocks.new.table c.refresh_blocks.new.self c.refresh_blocks.result c.self.invariant.agrees c.refresh_blocks.ensures.refreshed).turns

pub returns-clause-remembers : goal.returns-clause-remembers
returns-clause-remembers g c =
    rw (← c.self.view_is) (each_taken (g.B.Body.operations c.self.inside.body) record { body = c.self.inside.body; history = c.self.inside.history; table = c.self.inside.table; claims = c.self.inside.claims } c.refresh_blocks.new.table c.refresh_blocks.new.self c.refresh_blocks.result c.self.invariant.agrees c.refresh_blocks.ensures.refreshed).remembers
