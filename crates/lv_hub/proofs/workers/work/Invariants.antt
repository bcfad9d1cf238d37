-- Loop invariants of `work`: precomputes the aggregates of a hub for a number of turns.
use Rattle.std.proofs.Common.{◌≡◌, ◌+◌, ◌≤◌}
use Rattle.lv_hub.proofs.workers.work.Given as goal

abbrev pub invariant-loop-turn : goal.invariant-loop-turn
invariant-loop-turn g l =
    (l.worked.claimed ≤ l.turn) × (l.worked.installed + l.worked.held + l.worked.stale + l.worked.strangers ≡ l.worked.claimed)
