-- A live vector, and what it keeps for queries by one kind.
use Rattle.std.specs.Prelude.{◌≡◌}
use Rattle.lv_geometry.specs.Bounds.{Bounds}
use Rattle.lv_bodies.specs.Automata.{table_of}
use Rattle.lv_bodies.specs.Six.{SixSummary}
use Rattle.lv_bodies.specs.declared.sixes.SixByTable.{SixByTable}
use Rattle.lv_live.specs.State.{LiveState}
use Rattle.lv_tree.specs.Kinds.{AreReady, KindsState}

-- the limits are the live vector's, what is kept by kind is right for it, and there is room for all that it may be asked
pub record IsKindVector (limits : Bounds) (live : LiveState SixByTable SixSummary) (kinds : KindsState) : Type 0 where
  pub limits_are : limits ≡ live.history.limits
  pub kept : AreReady (table_of live.body.automaton) live.history.journal kinds
