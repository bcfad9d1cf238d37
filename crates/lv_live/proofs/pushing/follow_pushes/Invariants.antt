-- What the loop keeps in `follow_pushes`: takes note of pushes that were made from an index on, after so many edits: once for each block that
-- they touched, by the last of them there.
use Rattle.std.proofs.Common.{◌-◌, ◌≤◌}
use Rattle.lv_live.specs.Pushed.{PushesFollow}
use Rattle.lv_live.proofs.pushing.follow_pushes.Given as goal

-- the pushes so far are followed
abbrev pub invariant-loop-done : goal.invariant-loop-done
invariant-loop-done g l = record {
  follows : PushesFollow l.fn.table l.table l.fn.claims l.claims l.first l.edit l.done;
  within : l.done ≤ l.count;
}

-- what is left
abbrev pub decreases-loop-done : goal.decreases-loop-done
decreases-loop-done g l = l.count - l.done
