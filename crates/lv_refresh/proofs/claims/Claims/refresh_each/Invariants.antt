-- What the loop keeps in `Claims::refresh_each`.
use Rattle.std.proofs.Common.{◌*◌, ◌+◌, ◌≤◌}
use Rattle.lv_refresh.specs.Sweep.{Sweeps}
use Rattle.lv_refresh.proofs.claims.Claims.refresh_each.Given as goal

-- the blocks before this one were swept
abbrev pub invariant-loop-number : goal.invariant-loop-number
invariant-loop-number g l = record {
  sweeps : Sweeps (g.B.Body.operations l.body) l.history.journal l.initial.table l.table l.initial.self l.self l.done l.number;
  few : 64 * l.word + l.done ≤ l.number;
}
