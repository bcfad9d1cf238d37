-- All that a live vector has seen, and which of its nodes are fresh.
use Rattle.std.specs.Prelude.{◌≡◌, ℕ, Bool, false, ◌&&◌, Option, Some, None, List, nat_eq}
use Rattle.lv_geometry.specs.declared.nodes.Node.{Node}
use Rattle.lv_edits.specs.declared.edit.Edit.{Edit}
use Rattle.lv_edits.specs.Touch.{is_whole, touched_by}

-- the accepted edits; the node and version of every job that was ever claimed, in order; for each node the version at
-- which it was last claimed since claims were last forgotten; and for each node the version that was last installed
pub record Record : Type 0 where
  pub edits : List Edit
  pub issued : List (Node × ℕ)
  pub claimed : Node → Option ℕ
  pub kept : Node → Option ℕ

-- whether there is a version, and it is this one
abbrev pub is_version : ℕ → Option ℕ → Bool
is_version v None = false
is_version v (Some version) = nat_eq version v

-- whether a node is fresh: whole, and kept at the number of the edit that touched it last
abbrev pub is_fresh : Record → Node → Bool
is_fresh r n = is_whole r.edits n && is_version (touched_by r.edits n) (r.kept n)

-- two records say the same
pub record SameRecord (old new : Record) : Type 0 where
  pub edits : new.edits ≡ old.edits
  pub issued : new.issued ≡ old.issued
  pub claimed : (n : Node) → new.claimed n ≡ old.claimed n
  pub kept : (n : Node) → new.kept n ≡ old.kept n
