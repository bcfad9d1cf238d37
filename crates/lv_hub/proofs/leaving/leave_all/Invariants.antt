-- Loop invariants of `leave_all`: takes the parts of subscribers back, and collects what they leave in `room`, which is empty.
use Rattle.std.proofs.Common.{◌≡◌, length, vec_capacity, vec_len}
use Rattle.lv_hub.specs.Watchers.{TakesWatchers}
use Rattle.lv_hub.proofs.leaving.leave_all.Given as goal

abbrev pub invariant-loop-watcher : goal.invariant-loop-watcher
invariant-loop-watcher g l =
    (goal.iterator-loop-watcher g).can_next l.watcher-iterator ×
    (goal.iterator-loop-watcher g).is_finite l.watcher-iterator ×
    TakesWatchers g.N.Naming.numbers l.fn.share l.share l.yielded l.left.items ×
    (vec_len l.left ≡ length l.yielded) ×
    (vec_capacity l.left ≡ vec_capacity l.fn.room.left)
