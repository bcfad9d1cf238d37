-- What the loop keeps in `join_from`: one after the other, until one is rejected.
use Rattle.std.proofs.Common.{◌≡◌, Ok, drop, fold}
use Rattle.lv_shards.specs.Summaries.{join_next}
use Rattle.lv_shards.proofs.joins.join_from.Given as goal

-- what is left makes of what was joined what all make of the first
abbrev pub invariant-loop-part : goal.invariant-loop-part
invariant-loop-part l = fold join_next (Ok l.all) (drop l.part-index l.parts) ≡ fold join_next (Ok l.fn.first) l.parts
