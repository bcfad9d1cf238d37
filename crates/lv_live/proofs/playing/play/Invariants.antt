-- What the loop keeps in `play`: plays events in turn, and puts the reply to each after the replies.
use Rattle.std.proofs.Common.{◌≡◌, ◌+◌, ◌≤◌, ◌-◌, length, take, vec_capacity, vec_len}
use Rattle.lv_live.specs.State.{SameSetting, with_issued}
use Rattle.lv_live.proofs.PlayLaws.{Plays}
use Rattle.lv_live.proofs.playing.play.Given as goal

abbrev pub invariant-loop-event : goal.invariant-loop-event
invariant-loop-event g l =
    let o = g.B.Body.operations l.initial.live.body in
    Plays o l.initial.live.history.limits (with_issued l.initial.live l.initial.issued.jobs) (take l.event-index l.events) l.initial.replies.items l.replies.items l.live l.issued.jobs
    × SameSetting l.initial.live l.live
    × (length l.events - l.event-index ≤ l.issued.room)
    × (vec_len l.replies + (length l.events - l.event-index) ≤ vec_capacity l.replies)
    × (l.events ≡ l.initial.events)
