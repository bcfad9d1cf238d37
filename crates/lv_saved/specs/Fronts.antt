-- What comes before the elements of what is saved.
use Rattle.std.specs.Prelude.{◌≡◌, Option, None, Some, [], length, unwrap_or}
use Rattle.lv_bodies.specs.Automata.{table_of}
use Rattle.lv_saved.specs.Saved.{Saved}
use Rattle.lv_saved.specs.declared.fronts.Front.{Front}
use Rattle.lv_shards.specs.Summaries.{leads_of}

-- a front is that of what is saved
pub record IsFrontOf (s : Saved) (front : Front) : Type 0 where
  pub leads : leads_of (table_of front.automaton) ≡ leads_of s.table
  pub first : front.first ≡ s.first
  pub edits : front.edits ≡ s.edits
  pub elements : front.elements ≡ length s.elements
  pub times : front.times ≡ length (unwrap_or s.times [])

-- there is a front, and it is that of what is saved
abbrev pub IsSomeFront : Option Front → Saved → Type 0
IsSomeFront None s = ⊥
IsSomeFront (Some front) s = IsFrontOf s front
