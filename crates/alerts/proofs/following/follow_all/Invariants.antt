-- Loop invariants of `follow_all`.
use Rattle.alerts.specs.Followed.{KeepsFollowing}
use Rattle.alerts.proofs.following.follow_all.Given as goal

abbrev pub invariant-loop : goal.invariant-loop
invariant-loop g l = KeepsFollowing l.initial.follower.subscriber l.follower.subscriber l.initial.follower.told.items l.follower.told.items
