-- Proof of `play_one`: plays one event.
use Rattle.lv_live.proofs.playing.play_one.Goals as goal

pub returns-in-Edit-clause-world : goal.returns-in-Edit-clause-world
returns-in-Edit-clause-world g c = c.play_edit.ensures.world c.args.issued.now.jobs c.requires.world

pub returns-in-Settle-clause-world : goal.returns-in-Settle-clause-world
returns-in-Settle-clause-world g c = c.play_settle.ensures.world c.args.issued.now.jobs c.requires.world

pub returns-in-Forget-clause-world : goal.returns-in-Forget-clause-world
returns-in-Forget-clause-world g c = c.play_forget.ensures.world c.args.issued.now.jobs c.requires.world
