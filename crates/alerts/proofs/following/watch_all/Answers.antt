-- Proof of `watch_all`: registers questions in order, for a subscriber that has none yet.
use Rattle.std.proofs.Common.{◌∙◌, refl, arith, rules}
use Rattle.alerts.proofs.WatchingLaws.{watches_next, watches_none}
use Rattle.alerts.proofs.following.watch_all.Goals as goal

pub loop-i-init : goal.loop-i-init
loop-i-init g c = record { watching = watches_none c.args.subscriber.now c.requires.questions c.requires.told; share = refl }

pub loop-i-preserved : goal.loop-i-preserved
loop-i-preserved g c =
    let ok = c.in_ok-watch.ensures.ok in
    record {
      watching = watches_next c.args.questions.now c.loop-i.i c.index-questions-i.result c.loop-i.subscriber c.watch.new.self (omega arith) (search rules) c.loop-i.invariant.watching ok.0 ok.1 ok.2;
      share = c.watch.ensures.share ∙ c.loop-i.invariant.share;
    }
