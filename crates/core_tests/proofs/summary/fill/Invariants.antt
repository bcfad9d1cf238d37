-- What the loop keeps in `fill`, which makes room for blocks and has edits 1, 2, 3 and so on touch their indices in turn.
use Rattle.std.proofs.Common.{◌≡◌}
use Rattle.lv_summary.specs.Table.{blocks_in}
use Rattle.core_tests.proofs.summary.fill.Given as goal

abbrev pub invariant-loop-i : goal.invariant-loop-i
invariant-loop-i l = blocks_in l.table ≡ blocks_in l.initial.table
