-- Proof of `follow_pushes`: takes note of pushes that were made from an index on, after so many edits: once for each block that they touched, by
-- the last of them there.
use Rattle.std.proofs.Common.{◌≡◌, ◌+◌, ◌-◌, ◌/◌, ◌<◌, refl, arith}
use Rattle.lv_live.proofs.PushedLaws.{PushesFollow-more, PushesFollow-none}
use Rattle.lv_live.proofs.pushing.follow_pushes.Goals as goal

pub loop-done-init : goal.loop-done-init
loop-done-init g c =
    record { follows = PushesFollow-none c.args.table.now c.args.claims.now c.args.first c.args.edit c.requires.size; within = omega arith }

pub loop-done-preserved : goal.loop-done-preserved
loop-done-preserved g c =
    let first = c.args.first in
    let done = c.loop-done.done in
    let run = c.min.result in
    let some : done < done + run = omega (arith, c.min.ensures, c.loop-done-test.true) in
    let low : (first + done) / 8 ≡ (first + (done + run) - 1) / 8 = omega (arith, c.min.ensures, c.loop-done-test.true) in
    record {
      follows = PushesFollow-more c.args.table.now c.loop-done.table c.follow.new.table c.args.claims.now c.loop-done.claims c.follow.new.claims first c.args.edit done (done + run) (first + (done + run) - 1) c.loop-done.invariant.follows some low refl c.follow.ensures.table c.follow.ensures.claims;
      within = omega (arith, c.min.ensures);
    }
