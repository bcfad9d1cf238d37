-- What a live vector holds, and the record of it.
use Rattle.std.specs.Prelude.{◌≡◌, ◌<◌, ℕ, true, Option, Some, None, List, [], ◌∷◌, ◌++◌, map, nat_eq, slice_get, ◌-◌, if◌then◌else◌}
use Rattle.lv_geometry.specs.declared.nodes.Node.{Node}
use Rattle.lv_geometry.specs.Nodes.{is_node}
use Rattle.lv_bodies.specs.Body.{Operations}
use Rattle.lv_edits.specs.History.{History}
use Rattle.lv_edits.specs.Touch.{is_whole, touched_by}
use Rattle.lv_summary.specs.declared.accepted.Accepted.{Accepted}
use Rattle.lv_summary.specs.Table.{Table, fresh_in}
use Rattle.lv_refresh.specs.Carried.{Carried}
use Rattle.lv_refresh.specs.Claim.{children_fresh}
use Rattle.lv_refresh.specs.ClaimTable.{ClaimTable, record_of}
use Rattle.lv_refresh.specs.declared.contents.Contents.{Contents}
use Rattle.lv_refresh.specs.Honesty.{IsHonest}
use Rattle.lv_refresh.specs.Record.{Record}
use Rattle.lv_live.specs.Step.{after_accepted, with_version}

-- a vector's body, its limits and journal, its summaries and its claims
pub record LiveState (B S : Type 0) : Type 0 where
  pub body : B
  pub history : History
  pub table : Table S
  pub claims : ClaimTable

-- a vector's record: its edits, what is claimed and what is kept. Its list of issued jobs is empty; whoever keeps these puts them in
abbrev pub recorded : {B S : Type 0} → LiveState B S → Record
recorded s = record_of s.history.journal s.table s.claims

-- two states have the same body, limits and edits; the second has these claims and these kept versions
pub record IsRefreshed {B S : Type 0} (old new : LiveState B S) (claims versions : Node → Option ℕ) : Type 0 where
  pub body : new.body ≡ old.body
  pub history : new.history ≡ old.history
  pub claimed : (n : Node) → (recorded new).claimed n ≡ claims n
  pub kept : (n : Node) → (recorded new).kept n ≡ versions n

-- two states have the same body, limits, edits, claims and kept versions
abbrev pub SameLive : {B S : Type 0} → LiveState B S → LiveState B S → Type 0
SameLive old new = IsRefreshed old new (recorded old).claimed (recorded old).kept

-- two states have the same body, claims and kept versions; edits may differ
pub record SameRefresh {B S : Type 0} (old new : LiveState B S) : Type 0 where
  pub body : new.body ≡ old.body
  pub claimed : (n : Node) → (recorded new).claimed n ≡ (recorded old).claimed n
  pub kept : (n : Node) → (recorded new).kept n ≡ (recorded old).kept n

-- claims, with that of a job, if there is one
abbrev pub claimed_with : (Node → Option ℕ) → Option (Node × ℕ) → Node → Option ℕ
claimed_with claimed None = claimed
claimed_with claimed (Some job) = with_version claimed job.0 job.1

-- a claim of a node at a version, if there is one, and nothing else, was added
abbrev pub HasClaim : {B S : Type 0} → LiveState B S → LiveState B S → Option (Node × ℕ) → Type 0
HasClaim old new job = IsRefreshed old new (claimed_with (recorded old).claimed job) (recorded old).kept

-- no claim is left, and nothing else has changed
abbrev pub HasNoClaims : {B S : Type 0} → LiveState B S → LiveState B S → Type 0
HasNoClaims old new = IsRefreshed old new (λ n. None) (recorded old).kept

-- a summary that was delivered is kept if it was installed, and nothing else has changed
abbrev pub HasDelivery : {B S : Type 0} → LiveState B S → LiveState B S → Node → ℕ → Accepted → Type 0
HasDelivery old new node version accepted = IsRefreshed old new (recorded old).claimed (after_accepted (recorded old) node version accepted).kept

-- the contents of a job of a node, handed out at a version, can be made anew: if the node is whole, and the edit of that number touched it last,
-- the vector has the contents still, so that above level 1 the eight children are fresh
pub record CanRemake (r : Record) (n : Node) (v : ℕ) : Type 0 where
  pub node : is_node n ≡ true
  pub ready : is_whole r.edits n ≡ true → touched_by r.edits n ≡ v → 1 < n.level → children_fresh r n ≡ true

-- each node that was fresh still is, while it is whole and no edit has touched it since
abbrev pub Remembers : {B S : Type 0} → LiveState B S → LiveState B S → Type 0
Remembers old new =
    (n : Node) → fresh_in old.table n ≡ true → is_whole new.history.journal n ≡ true → touched_by new.history.journal n ≡ touched_by old.history.journal n → fresh_in new.table n ≡ true

-- contents that were taken honestly from one state are so in another
abbrev pub HonestyLasts : {B S : Type 0} → Operations S → LiveState B S → LiveState B S → Type 0
HonestyLasts {B} {S} o old new = (n : Node) (v : ℕ) (contents : Contents S) → IsHonest o (recorded old) n v contents → IsHonest o (recorded new) n v contents

-- node and version of a job
abbrev pub node_and_version : {B S : Type 0} → Carried B S → Node × ℕ
node_and_version job = (job.node, job.version)

-- a live vector with every job that it handed out, in order
pub record WorldState (B S : Type 0) : Type 0 where
  pub live : LiveState B S
  pub jobs : List (Carried B S)

-- the jobs that were handed out, in the order of their numbers from 1, at most how many there may be, and for how many more there is
-- room
pub record IssuedState (B S : Type 0) : Type 0 where
  pub jobs : List (Carried B S)
  pub most : ℕ
  pub room : ℕ

-- the record of a live vector, with the jobs that were issued
abbrev pub with_issued : {B S : Type 0} → LiveState B S → List (Carried B S) → Record
with_issued live jobs = record (recorded live) { issued = map node_and_version jobs }

-- the record of a world
abbrev pub world_record : {B S : Type 0} → WorldState B S → Record
world_record w = with_issued w.live w.jobs

-- two states have the same body and limits
pub record SameSetting {B S : Type 0} (old new : LiveState B S) : Type 0 where
  pub body : new.body ≡ old.body
  pub limits : new.history.limits ≡ old.history.limits

-- jobs with one more, if there is one
abbrev pub jobs_with : {B S : Type 0} → List (Carried B S) → Option (Carried B S) → List (Carried B S)
jobs_with jobs None = jobs
jobs_with jobs (Some job) = jobs ++ job ∷ []

-- the job of a number, counted from 1, if there is one
abbrev pub job_at : {B S : Type 0} → List (Carried B S) → ℕ → Option (Carried B S)
job_at jobs k = if nat_eq k 0 then None else slice_get jobs (k - 1)
