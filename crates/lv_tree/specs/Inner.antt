-- What the trees of all kinds keep in addition to their specified state: how much room each of them has.
use Rattle.std.specs.Prelude.{◌≤◌}
use Rattle.lv_tree.specs.Kinds.{KindsState}

-- each kind has room for so many blocks, and a vector never needs more than 131071 of them
pub record IsRoomy (s : KindsState) : Type 0 where
  pub most : s.room ≤ 131071
  pub sums : s.room ≤ s.sums.room
  pub least : s.room ≤ s.least.room
  pub greatest : s.room ≤ s.greatest.room
  pub best : s.room ≤ s.best.room
  pub maps : s.room ≤ s.maps.room
  pub states : s.room ≤ s.states.room
