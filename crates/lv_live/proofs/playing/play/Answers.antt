-- Proof of `play`: plays events in turn, and puts the reply to each after the replies.
use Rattle.std.proofs.Common.{◌∙◌, refl, arith}
use Rattle.std.proofs.lemmas.Grind.{take_at_read}
use Rattle.lv_live.proofs.PlayLaws.{plays_more}
use Rattle.lv_live.proofs.playing.play.Goals as goal

pub loop-event-preserved : goal.loop-event-preserved
loop-event-preserved g c =
    let inv = c.loop-event.invariant in
    let played = c.play_one-reply.ensures in
    let step = rw inv.1.limits at (rw inv.1.body at played.step) in
    let world = rw inv.1.body at played.world in (
      rw c.push_reserved.ensures.items
          (plays_more _ _ _ _ _ _ _ _ _ _ _ _ _ inv.0 step world (take_at_read c.args.events.now c.loop-event.event-index _ c.loop-event-test.true).1),
      record { body = played.setting.body ∙ inv.1.body; limits = played.setting.limits ∙ inv.1.limits },
      omega (arith, inv.2, played.room, c.loop-event-test.true),
      omega (arith, inv.3, c.push_reserved.ensures.len, c.push_reserved.ensures.capacity, c.loop-event-test.true),
      refl,
    )
