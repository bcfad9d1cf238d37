-- Loop invariants of `subscribe_all`: gives each subscriber a part of the hub that has seen what the prefix has, which is no updates.
use Rattle.std.proofs.Common.{◌≡◌, ◌+◌, None, length, map}
use Rattle.lv_hub.specs.Asking.{refusal_of_all}
use Rattle.lv_hub.specs.Watchers.{watcher_at}
use Rattle.lv_hub.proofs.watchers.subscribe_all.Given as goal

abbrev pub invariant-loop-watch : goal.invariant-loop-watch
invariant-loop-watch g l =
    (goal.iterator-loop-watch g).can_next l.watch-iterator ×
    (goal.iterator-loop-watch g).is_finite l.watch-iterator ×
    (l.watchers.items ≡ map (λ w. watcher_at (record { questions = w.questions.items; contents = g.F.Write.contents w.notes })) l.yielded) ×
    (l.share.parts + length l.yielded ≡ l.fn.share.parts) ×
    (l.share.count ≡ l.fn.share.count) ×
    (l.share.seen ≡ l.fn.share.seen) ×
    (refusal_of_all (map (λ w. w.questions.items) l.yielded) ≡ None)
