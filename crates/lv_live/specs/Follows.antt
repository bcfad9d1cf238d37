-- How the table of summaries and the claims follow an edit, and the claims a delivery.
use Rattle.std.specs.Prelude.{◌≡◌, ◌/◌, ◌<◌, ◌≤◌, ℕ, true, List, [], ◌∷◌}
use Rattle.std.specs.List.{AllByRecursion}
use Rattle.lv_geometry.specs.declared.nodes.Node.{Node}
use Rattle.lv_geometry.specs.Nodes.{over, parent}
use Rattle.lv_summary.specs.declared.accepted.Accepted.{Accepted}
use Rattle.lv_summary.specs.declared.accepted.Accepted.TheVariants.{Held, Installed, Stale}
use Rattle.lv_summary.specs.Changes.{HasSize, TouchesEach}
use Rattle.lv_summary.specs.Table.{Table}
use Rattle.lv_refresh.specs.ClaimTable.{ClaimTable, claim_blocks, claimed_in, is_hinted}
use Rattle.lv_refresh.specs.Inner.{HintsNode}
use Rattle.lv_live.specs.declared.following.Touched.{Touched}
use Rattle.lv_live.specs.declared.following.Touched.TheVariants.{Nothing, One, Two}

-- claims that answer alike, whatever they have room for; hints may be added
pub record ClaimsAlike (old new : ClaimTable) : Type 0 where
  pub claimed : (n : Node) → claimed_in new n ≡ claimed_in old n
  pub hints : (n : Node) → is_hinted old n ≡ true → is_hinted new n ≡ true
  pub more : claim_blocks old ≤ claim_blocks new

-- the indices that an edit touches, in order
abbrev pub indices_in : Touched → List ℕ
indices_in Nothing = []
indices_in (One i) = i ∷ []
indices_in (Two i j) = i ∷ j ∷ []

-- indices of blocks that a vector can have: those of 17 buckets
abbrev pub HaveBlocks : List ℕ → Type 0
HaveBlocks indices = AllByRecursion (λ i. i < 1048568) indices

-- the blocks of these indices are among so many blocks
abbrev pub HaveRows : ℕ → List ℕ → Type 0
HaveRows blocks indices = AllByRecursion (λ i. i / 8 < blocks) indices

-- the table after an edit that touched these indices, and after which the vector has this size
abbrev pub TableFollows : {S : Type 0} → Table S → Table S → List ℕ → ℕ → ℕ → Type 0
TableFollows old new indices edit size = (mid : Table _) × TouchesEach old mid indices edit × HasSize mid new size

-- the claims after such an edit: the block of each index is hinted
pub record ClaimsFollow (old new : ClaimTable) (indices : List ℕ) : Type 0 where
  pub alike : ClaimsAlike old new
  pub blocks : AllByRecursion (λ i. is_hinted new (over 1 i) ≡ true) indices

-- the claims after a delivery to a node: its parent is hinted at if the summary was installed
abbrev pub ClaimsHear : ClaimTable → ClaimTable → Node → Accepted → Type 0
ClaimsHear old new node Installed = HintsNode old new (parent node)
ClaimsHear old new node Held = new ≡ old
ClaimsHear old new node (Stale now) = new ≡ old
