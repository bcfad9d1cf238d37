-- Loop invariants of `attend`: precomputes the aggregates of a hub for a number of turns, as `work` does, and sleeps while no node needs a job,
-- until an update wakes it.
use Rattle.std.proofs.Common.{◌≡◌, ◌+◌, ◌≤◌}
use Rattle.lv_hub.proofs.attending.attend.Given as goal

abbrev pub invariant-loop-turn : goal.invariant-loop-turn
invariant-loop-turn g l =
    (l.worked.claimed ≤ l.turn) × (l.worked.installed + l.worked.held + l.worked.stale + l.worked.strangers ≡ l.worked.claimed)
