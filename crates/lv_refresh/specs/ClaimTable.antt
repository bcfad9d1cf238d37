-- Claims and hints, node by node. A claim is the version at which a node was claimed last, since claims were last forgotten.
-- Each node that wants a job is hinted at; others may be.
use Rattle.std.specs.Prelude.{◌≡◌, ℕ, ◌-◌, Bool, true, ◌&&◌, Option, Some, None, option_map, List, [], slice_index, nat_lt, length, if◌then◌else◌}
use Rattle.std.specs.List.{slice_index_or}
use Rattle.lv_geometry.specs.declared.nodes.Node.{Node}
use Rattle.lv_geometry.specs.Nodes.{is_node}
use Rattle.lv_edits.specs.declared.edit.Edit.{Edit}
use Rattle.lv_summary.specs.Table.{Table, kept_in}
use Rattle.lv_refresh.specs.Claim.{wants_job}
use Rattle.lv_refresh.specs.Marks.{is_marked}
use Rattle.lv_refresh.specs.Record.{Record}

-- the rows of one level, by the node's number: one more than the version at which it was claimed (0 if it wasn't), and the words of the hints
pub record ClaimRows : Type 0 where
  pub claimed : List ℕ
  pub hints : List ℕ

-- the rows of the six levels, from the lowest
pub record ClaimTable : Type 0 where
  pub levels : List ClaimRows

-- a level that has no rows
abbrev pub no_claims : ClaimRows
no_claims = record { claimed = []; hints = [] }

-- the rows of a node's level
abbrev pub claim_rows_for : ClaimTable → Node → ClaimRows
claim_rows_for c n = slice_index_or c.levels (n.level - 1) no_claims

-- the version that a row says
abbrev pub version_of : ℕ → Option ℕ
version_of stamp = if nat_lt 0 stamp then Some (stamp - 1) else None

-- the version at which a node was claimed last; none if it wasn't, and outside the table
unfoldable pub claimed_in : ClaimTable → Node → Option ℕ
claimed_in c n = if is_node n then version_of (slice_index (claim_rows_for c n).claimed n.number) else None

-- whether a node is hinted at
unfoldable pub is_hinted : ClaimTable → Node → Bool
is_hinted c n = is_node n && is_marked (claim_rows_for c n).hints n.number

-- how many blocks there are rows for
unfoldable pub claim_blocks : ClaimTable → ℕ
claim_blocks c = length (slice_index_or c.levels 0 no_claims).claimed

-- what a vector has seen, as far as it decides which job comes next: the list of issued jobs, which does not, is left empty
abbrev pub record_of : {S : Type 0} → List Edit → Table S → ClaimTable → Record
record_of edits t c =
    record {
      edits = edits;
      issued = [];
      claimed = claimed_in c;
      kept = λ n. option_map (λ kept. kept.0) (kept_in t n);
    }

-- each node that wants a job is hinted at
abbrev pub AreHints : Record → ClaimTable → Type 0
AreHints r c = (n : Node) → wants_job r n ≡ true → is_hinted c n ≡ true
