-- Proof of `Live::take_turns`: takes turns, at most so many, while a node wants a job.
use Rattle.std.proofs.Common.{◌∙◌, refl}
use Rattle.lv_live.proofs.RefreshLaws.{turns_next}
use Rattle.lv_live.proofs.RememberLaws.{remembers_then}
use Rattle.lv_live.proofs.live.Live.take_turns.Goals as goal

pub loop-done-init : goal.loop-done-init
loop-done-init g c = (c.take_block_turns-swept.ensures.turns, c.take_block_turns-swept.ensures.remembers)

pub loop-done-preserved : goal.loop-done-preserved
loop-done-preserved g c =
    let turn = c.if-not-take_turn.ensures.turn refl in (
      turns_next (g.B.Body.operations c.args.self.now.body) c.args.self.now c.loop-done.self c.take_turn.new.self c.loop-done.done c.loop-done.invariant.0 turn,
      remembers_then c.args.self.now c.loop-done.self c.take_turn.new.self c.loop-done.invariant.0.history (turn.delivers.history ∙ turn.claims.history) c.loop-done.invariant.1 c.if-not-take_turn.ensures.remembers,
    )

pub returns-then-not-take_turn-clause-remembers : goal.returns-then-not-take_turn-clause-remembers
returns-then-not-take_turn-clause-remembers g c =
    remembers_then c.args.self.now c.loop-done.self c.take_turn.new.self c.loop-done.invariant.0.history (c.if-not-take_turn.ensures.same refl).history c.loop-done.invariant.1 c.if-not-take_turn.ensures.remembers

pub returns-clause-remembers : goal.returns-clause-remembers
returns-clause-remembers g c = c.loop-done.invariant.1
