-- What refreshes in place make of a table and its claims.
use Rattle.std.specs.Prelude.{◌≡◌, ℕ, zero, suc, true, Some, List, if◌then◌else◌}
use Rattle.lv_geometry.specs.declared.nodes.Node.{Node}
use Rattle.lv_geometry.specs.Nodes.{is_node, parent, same_node}
use Rattle.lv_bodies.specs.Body.{Operations, fold_of}
use Rattle.lv_edits.specs.declared.edit.Edit.{Edit}
use Rattle.lv_edits.specs.Touch.{elements_under}
use Rattle.lv_summary.specs.Changes.{Keeps}
use Rattle.lv_summary.specs.Table.{Table}
use Rattle.lv_refresh.specs.Claim.{IsNextJob}
use Rattle.lv_refresh.specs.ClaimTable.{ClaimTable, claimed_in, is_hinted, record_of}

-- the least node that wants a job was refreshed: it is claimed at the number of the edit that touched it last, the fold of its
-- elements is kept for it at that version, and its parent is hinted at, if it has one
pub record RefreshesNext {S : Type 0} (o : Operations S) (edits : List Edit) (old new : Table S) (before after : ClaimTable) : Type 0 where
  pub node : Node
  pub version : ℕ
  pub next : IsNextJob (record_of edits old before) (Some (node, version))
  pub keeps : Keeps old new node version (fold_of o (elements_under edits node))
  pub claimed : (n : Node) → claimed_in after n ≡ (if same_node n node then Some version else claimed_in before n)
  pub above : is_node (parent node) ≡ true → is_hinted after (parent node) ≡ true

-- the least node that wants a job was refreshed: it is claimed at the number of the edit that touched it last, and the fold of its elements is
-- kept for it at that version. Nothing is said of hints
pub record RefreshesOne {S : Type 0} (o : Operations S) (edits : List Edit) (old new : Table S) (before after : ClaimTable) : Type 0 where
  pub node : Node
  pub version : ℕ
  pub next : IsNextJob (record_of edits old before) (Some (node, version))
  pub keeps : Keeps old new node version (fold_of o (elements_under edits node))
  pub claimed : (n : Node) → claimed_in after n ≡ (if same_node n node then Some version else claimed_in before n)

-- so many nodes were refreshed, each of them the least that wanted a job then
abbrev pub RefreshesEach : {S : Type 0} → Operations S → List Edit → Table S → Table S → ClaimTable → ClaimTable → ℕ → Type 0
RefreshesEach o edits old new before after zero = (new ≡ old) × ((n : Node) → claimed_in after n ≡ claimed_in before n)
RefreshesEach {S} o edits old new before after (suc k) =
    (mid : Table S) × (between : ClaimTable) × RefreshesEach o edits old mid before between k × RefreshesOne o edits mid new between after
