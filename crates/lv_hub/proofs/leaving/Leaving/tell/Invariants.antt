-- Loop invariants of `Leaving::tell`: has each of them write its last notification, in order, from the vector of the hub that was closed after
-- this many updates, unless these aren't recorded.
use Rattle.std.proofs.Common.{◌≡◌, false, length, map, vec_capacity, vec_len}
use Rattle.lv_live.specs.State.{SameLive}
use Rattle.lv_hub.proofs.WatchedLaws.{AllTellLastAt}
use Rattle.lv_hub.proofs.leaving.Leaving.tell.Given as goal

abbrev pub invariant-loop-one : goal.invariant-loop-one
invariant-loop-one g l =
    (goal.iterator-loop-one g).can_next l.one-iterator ×
    (goal.iterator-loop-one g).is_finite l.one-iterator ×
    AllTellLastAt l.fn.live.history.journal l.fn.edit l.yielded (map (λ w. w.notices) l.watched.items) ×
    SameLive l.fn.live l.live ×
    (vec_len l.watched ≡ length l.yielded) ×
    (vec_capacity l.watched ≡ vec_capacity l.fn.self.watched) ×
    (l.fn.is_recorded ≡ false → map (λ w. w.notices.contents) l.watched.items ≡ map (λ k. k.notices.contents) l.yielded)
