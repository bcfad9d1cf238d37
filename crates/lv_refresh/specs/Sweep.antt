-- A sweep over blocks, in the order of their numbers.
use Rattle.std.specs.Prelude.{◌≡◌, ℕ, ◌*◌, ◌<◌, ◌≤◌, false, List}
use Rattle.lv_bodies.specs.Body.{Operations}
use Rattle.lv_edits.specs.declared.edit.Edit.{Edit}
use Rattle.lv_summary.specs.Agrees.{Agrees}
use Rattle.lv_summary.specs.Table.{Table}
use Rattle.lv_refresh.specs.Claim.{wants_job}
use Rattle.lv_refresh.specs.ClaimTable.{AreHints, ClaimTable, claim_blocks, record_of}
use Rattle.lv_refresh.specs.Inner.{node_at}
use Rattle.lv_refresh.specs.Refreshed.{RefreshesEach}

-- the blocks before one were swept: the table agrees with the edits, each node that wants a job is hinted at, there is room for claims
-- of all nodes, and no block before this one wants a job
pub record IsSwept {S : Type 0} (o : Operations S) (edits : List Edit) (t : Table S) (c : ClaimTable) (next : ℕ) : Type 0 where
  pub agrees : Agrees o edits t
  pub hints : AreHints (record_of edits t c) c
  pub grown : t.size ≤ 8 * claim_blocks c
  pub calm : (k : ℕ) → k < next → wants_job (record_of edits t c) (node_at 1 k) ≡ false

-- so many blocks were refreshed, and those before one were swept then
pub record Sweeps {S : Type 0} (o : Operations S) (edits : List Edit) (old new : Table S) (before after : ClaimTable) (count next : ℕ) : Type 0 where
  pub refreshed : RefreshesEach o edits old new before after count
  pub swept : IsSwept o edits new after next
  pub size : new.size ≡ old.size
  pub blocks : claim_blocks after ≡ claim_blocks before
