-- The initial states of scripts.
use Rattle.std.specs.Prelude.{◌≡◌, None, List, []}
use Rattle.lv_geometry.specs.Bounds.{Bounds}
use Rattle.lv_geometry.specs.declared.nodes.Node.{Node}
use Rattle.lv_edits.specs.declared.edit.Edit.{Edit}
use Rattle.lv_script.specs.Script.{ScriptState}

-- a script begins with these updates, and without tasks, claims, aggregates or queries
pub record BeginsAfter (limits : Bounds) (edits : List Edit) (s : ScriptState) : Type 0 where
  pub limits_are : s.limits ≡ limits
  pub edits_are : s.seen.edits ≡ edits
  pub issued : s.seen.issued ≡ []
  pub claimed : (n : Node) → s.seen.claimed n ≡ None
  pub kept : (n : Node) → s.seen.kept n ≡ None
  pub queries : s.queries ≡ []

-- a script begins without updates
abbrev pub Begins : Bounds → ScriptState → Type 0
Begins limits s = BeginsAfter limits [] s
