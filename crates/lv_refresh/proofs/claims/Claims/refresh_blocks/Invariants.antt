-- What the loop keeps in `Claims::refresh_blocks`.
use Rattle.std.proofs.Common.{◌*◌, ◌≤◌}
use Rattle.lv_refresh.specs.Sweep.{Sweeps}
use Rattle.lv_refresh.proofs.claims.Claims.refresh_blocks.Given as goal

-- the blocks of the words before this one were swept
abbrev pub invariant-loop-word : goal.invariant-loop-word
invariant-loop-word g l = record {
  sweeps : Sweeps (g.B.Body.operations l.body) l.history.journal l.initial.table l.table l.initial.self l.self l.done (64 * l.word);
  few : l.done ≤ l.jobs;
}
