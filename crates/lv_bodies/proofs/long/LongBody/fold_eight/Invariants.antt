-- What the loop keeps in `fold_eight`: the fold of eight elements.
use Rattle.std.proofs.Common.{◌≡◌, take}
use Rattle.lv_bodies.specs.Body.{fold_of}
use Rattle.lv_bodies.proofs.long.LongBody.fold_eight.Given as goal

-- the fold of what was read so far
abbrev pub invariant-loop-i : goal.invariant-loop-i
invariant-loop-i g l = record {
  so_far : l.sum ≡ fold_of (g.Self.Body.operations l.self) (take l.i l.xs);
  within : g.Self.Body.is_within l.self l.sum l.i;
}
