-- Proof of `play_edit`: makes an edit.
use Rattle.std.proofs.Common.{Ok}
use Rattle.lv_live.proofs.WorldLaws.{world_edit}
use Rattle.lv_live.proofs.playing.play_edit.Goals as goal

pub returns-in-Ok-clause-world : goal.returns-in-Ok-clause-world
returns-in-Ok-clause-world g c = λ jobs world.
    world_edit (g.B.Body.operations c.args.live.now.body) c.args.live.now c.apply.new.self c.args.edit (Ok c.in-Ok.receipt) jobs c.in-Ok.ensures.refresh c.in-Ok.ensures.answer c.in-Ok.ensures.limits world
