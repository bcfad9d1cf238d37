-- What every live vector keeps, and every world.
use Rattle.std.specs.Prelude.{◌≡◌, ◌*◌, ◌≤◌, List, All}
use Rattle.lv_bodies.specs.Body.{Operations}
use Rattle.lv_edits.specs.Kept.{IsLegalInLimits}
use Rattle.lv_summary.specs.Agrees.{Agrees}
use Rattle.lv_refresh.specs.Carried.{Carried}
use Rattle.lv_refresh.specs.ClaimTable.{AreHints, claim_blocks}
use Rattle.lv_refresh.specs.Honesty.{IsHonest}
use Rattle.lv_live.specs.State.{LiveState, recorded}

-- the vector is within its limits, the summaries agree with the journal, every node that wants a job is hinted at, and each index
-- has its room for claims
pub record IsLive {B S : Type 0} (o : Operations S) (s : LiveState B S) : Type 0 where
  pub limits : IsLegalInLimits s.history
  pub agrees : Agrees o s.history.journal s.table
  pub hints : AreHints (recorded s) s.claims
  pub grown : s.table.size ≤ 8 * claim_blocks s.claims

-- a job has the vector's body, and its contents were taken from this vector
abbrev pub IsOwn : {B S : Type 0} → Operations S → LiveState B S → Carried B S → Type 0
IsOwn o live job = (job.body ≡ live.body) × IsHonest o (recorded live) job.node job.version job.contents

-- every job is the vector's own
abbrev pub AllOwn : {B S : Type 0} → Operations S → LiveState B S → List (Carried B S) → Type 0
AllOwn o live jobs = All (IsOwn o live) jobs

-- a vector is within its limits, and every job is its own
pub record IsWorld {B S : Type 0} (o : Operations S) (live : LiveState B S) (jobs : List (Carried B S)) : Type 0 where
  pub limits : IsLegalInLimits live.history
  pub own : AllOwn o live jobs
