-- Loop invariants of `watch_all`: registers questions in order, for a subscriber that has none yet.
use Rattle.std.proofs.Common.{◌≡◌, take}
use Rattle.alerts.specs.Followed.{IsWatching}
use Rattle.alerts.proofs.following.watch_all.Given as goal

abbrev pub invariant-loop-i : goal.invariant-loop-i
invariant-loop-i g l = record {
  watching : IsWatching (take l.i l.questions) l.subscriber;
  share : l.subscriber.share ≡ l.initial.subscriber.share;
}
