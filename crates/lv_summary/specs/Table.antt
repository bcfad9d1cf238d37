-- A table of summaries, node by node: by which edit each was touched last, and which summary is kept for it.
use Rattle.std.specs.Prelude.{ℕ, ◌-◌, Bool, false, ◌&&◌, Option, Some, None, option_map, List, [], slice_get, slice_index, nat_eq, nat_lt, length, if◌then◌else◌}
use Rattle.std.specs.List.{slice_index_or}
use Rattle.lv_geometry.specs.declared.nodes.Node.{Node}
use Rattle.lv_geometry.specs.Nodes.{is_below, is_node}
use Rattle.lv_summary.specs.declared.accepted.Accepted.{Accepted}
use Rattle.lv_summary.specs.declared.accepted.Accepted.TheVariants.{Installed, Held, Stale}

-- the rows of one level, by the node's number: the edit that touched it last, one more than the version of the summary that was delivered for it
-- (0 if none was), and the summary that is stored there
pub record Rows (S : Type 0) : Type 0 where
  pub touched : List ℕ
  pub stamps : List ℕ
  pub kept : List S

-- the rows of the six levels, from the lowest, and the size of the vector
pub record Table (S : Type 0) : Type 0 where
  pub size : ℕ
  pub levels : List (Rows S)

-- a level that has no rows
abbrev pub no_rows : {S : Type 0} → Rows S
no_rows = record { touched = []; stamps = []; kept = [] }

-- the rows of a node's level
abbrev pub rows_for : {S : Type 0} → Table S → Node → Rows S
rows_for t n = slice_index_or t.levels (n.level - 1) no_rows

-- the number of the last edit that touched a node; 0 if none did, and outside the table
unfoldable pub touched_in : {S : Type 0} → Table S → Node → ℕ
touched_in t n = if is_node n then slice_index (rows_for t n).touched n.number else 0

-- the version that was delivered for a node, if one was, with the summary that is stored in its row
unfoldable pub kept_in : {S : Type 0} → Table S → Node → Option (ℕ × S)
kept_in t n =
    let stamp = slice_index (rows_for t n).stamps n.number in
    if is_node n && nat_lt 0 stamp then option_map (λ s. (stamp - 1, s)) (slice_get (rows_for t n).kept n.number) else None

-- whether a node is whole: of a level that is kept, with every index below the size
abbrev pub whole_in : {S : Type 0} → Table S → Node → Bool
whole_in t n = is_node n && is_below n t.size

-- whether what is kept, if anything, has this version
abbrev pub has_version : {S : Type 0} → ℕ → Option (ℕ × S) → Bool
has_version v None = false
has_version v (Some kept) = nat_eq kept.0 v

-- whether a node is fresh: whole, and what is kept for it has the number of the last edit that touched it
abbrev pub fresh_in : {S : Type 0} → Table S → Node → Bool
fresh_in t n = whole_in t n && has_version (touched_in t n) (kept_in t n)

-- the summary of a fresh node
abbrev pub entry_in : {S : Type 0} → Table S → Node → Option S
entry_in t n = if fresh_in t n then option_map (λ kept. kept.1) (kept_in t n) else None

-- how many blocks the table has rows for
unfoldable pub blocks_in : {S : Type 0} → Table S → ℕ
blocks_in t = length (slice_index_or t.levels 0 no_rows).touched

-- what becomes of a summary that is delivered for a node: stale if the node isn't whole, or was touched by another edit last; else held if what
-- is kept has its version; else installed
abbrev pub delivery_in : {S : Type 0} → Table S → Node → ℕ → Accepted
delivery_in t n v =
    if whole_in t n && nat_eq (touched_in t n) v then (if has_version v (kept_in t n) then Held else Installed) else Stale (touched_in t n)
