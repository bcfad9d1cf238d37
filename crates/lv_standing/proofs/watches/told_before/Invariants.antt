-- What the loop keeps in `told_before`: nothing, since it stops at the first query that is alike.
use Rattle.std.specs.Prelude.{⊤}
use Rattle.lv_standing.proofs.watches.told_before.Given as goal

abbrev pub invariant-loop-j : goal.invariant-loop-j
invariant-loop-j l = ⊤
