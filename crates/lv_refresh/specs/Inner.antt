-- What the fields of the crate's types keep, and how one level of claims is seen and changed.
use Rattle.std.specs.Prelude.{◌≡◌, ℕ, ◌+◌, ◌-◌, ◌*◌, ◌/◌, ◌^◌, ◌<◌, ◌≤◌, Bool, true, false, ◌&&◌, ◌||◌, not, Option, Some, None, List, [], ◌∷◌, ◌++◌, length, replicate, slice_get, slice_index, slice_set, sum, nat_eq, if◌then◌else◌}
use Rattle.std.specs.List.{list_all, range_with_len, slice_index_or}
use Rattle.lv_geometry.specs.declared.levels.Levels.{Levels}
use Rattle.lv_geometry.specs.declared.nodes.Node.{Node}
use Rattle.lv_geometry.specs.Levels.{thing_at}
use Rattle.lv_geometry.specs.Nodes.{child, is_node, same_node}
use Rattle.lv_edits.specs.declared.edit.Edit.{Edit}
use Rattle.lv_edits.specs.Touch.{elements_under}
use Rattle.lv_summary.specs.Table.{Table, entry_in, fresh_in, touched_in, whole_in}
use Rattle.lv_refresh.specs.declared.contents.Contents.{Contents}
use Rattle.lv_refresh.specs.declared.contents.Contents.TheVariants.{Elements, Children}
use Rattle.lv_refresh.specs.Carried.{Carried}
use Rattle.lv_refresh.specs.Claim.{Before}
use Rattle.lv_refresh.specs.ClaimTable.{ClaimRows, ClaimTable, claim_blocks, claimed_in, is_hinted, no_claims, version_of}
use Rattle.lv_refresh.specs.Contents.{in_order}
use Rattle.lv_refresh.specs.Marks.{is_marked}
use Rattle.lv_refresh.specs.Record.{is_version}

-- marks over words: the words that have a mark are those that are marked
abbrev pub AreOver : List ℕ → List ℕ → Type 0
AreOver over words = (k : ℕ) → is_marked over k ≡ not (nat_eq (slice_index words k) 0)

-- there are words with room for a mark for each of some words that has one, and few enough words for numbers below 131,072
pub record AreMarks (words over : List ℕ) : Type 0 where
  pub few : length words ≤ 2048
  pub room : length words ≤ 64 * length over
  pub over_is : AreOver over words

-- one level of claims: its rows, and for how many of them it has memory
pub record ClaimLevelState : Type 0 where
  pub rows : ClaimRows
  pub capacity : ℕ

-- claims of six levels
abbrev pub claims_of : Levels ClaimLevelState → ClaimTable
claims_of of = record { levels = of.level_1.rows ∷ of.level_2.rows ∷ of.level_3.rows ∷ of.level_4.rows ∷ of.level_5.rows ∷ of.level_6.rows ∷ [] }

-- every index of the blocks has its row, and every row its hint
pub record IsClaimLevel (blocks level : ℕ) (rows : ClaimRows) : Type 0 where
  pub covers : 8 * blocks ≤ length rows.claimed * 8 ^ level
  pub hints : length rows.claimed ≤ 64 * length rows.hints

-- each of the six levels is such, and there are few enough blocks
pub record AreClaims (c : ClaimTable) : Type 0 where
  pub few : claim_blocks c ≤ 131071
  pub levels : (level : ℕ) → 1 ≤ level → level ≤ 6 → IsClaimLevel (claim_blocks c) level (slice_index_or c.levels (level - 1) no_claims)

-- rows with further ones, n in all, which were not claimed and are not hinted at
pub record FillsClaims (old new : ClaimRows) (n : ℕ) : Type 0 where
  pub claimed : new.claimed ≡ old.claimed ++ replicate (n - length old.claimed) 0
  pub alike : (k : ℕ) → is_marked new.hints k ≡ is_marked old.hints k
  pub more : length old.hints ≤ length new.hints
  pub room : n ≤ 64 * length new.hints

-- six levels have the rows of others, whatever they have memory for
abbrev pub HaveSameRows : Levels ClaimLevelState → Levels ClaimLevelState → Type 0
HaveSameRows old new = (level : ℕ) → 1 ≤ level → level ≤ 6 → (thing_at new level).rows ≡ (thing_at old level).rows

-- each of six levels has memory for so many rows
abbrev pub HaveRoom : Levels ClaimLevelState → Levels ℕ → Type 0
HaveRoom of rows = (level : ℕ) → 1 ≤ level → level ≤ 6 → thing_at rows level ≤ (thing_at of level).capacity

-- each of six levels has further rows, so many in all
abbrev pub AreFilled : Levels ClaimLevelState → Levels ClaimLevelState → Levels ℕ → Type 0
AreFilled old new rows = (level : ℕ) → 1 ≤ level → level ≤ 6 → FillsClaims (thing_at old level).rows (thing_at new level).rows (thing_at rows level)

-- the node of a number is hinted at, and nothing else has changed
pub record HintsAt (old new : ClaimRows) (number : ℕ) : Type 0 where
  pub claimed : new.claimed ≡ old.claimed
  pub hints : (k : ℕ) → is_marked new.hints k ≡ (nat_eq k number || is_marked old.hints k)
  pub room : length new.hints ≡ length old.hints

-- the hint at the node of a number is taken away, and nothing else has changed
pub record UnhintsAt (old new : ClaimRows) (number : ℕ) : Type 0 where
  pub claimed : new.claimed ≡ old.claimed
  pub hints : (k : ℕ) → is_marked new.hints k ≡ (not (nat_eq k number) && is_marked old.hints k)
  pub room : length new.hints ≡ length old.hints
  pub lighter : is_marked old.hints number ≡ true → sum new.hints < sum old.hints

-- the hints at the 64 nodes of a word are taken away, and nothing else has changed
pub record UnhintsWord (old new : ClaimRows) (word : ℕ) : Type 0 where
  pub claimed : new.claimed ≡ old.claimed
  pub hints : (k : ℕ) → is_marked new.hints k ≡ (not (nat_eq (k / 64) word) && is_marked old.hints k)
  pub room : length new.hints ≡ length old.hints

-- the hints at the 512 blocks of a subtree are taken away, and nothing else has changed
pub record UnhintsSubtree (old new : ClaimRows) (number : ℕ) : Type 0 where
  pub claimed : new.claimed ≡ old.claimed
  pub hints : (k : ℕ) → is_marked new.hints k ≡ (not (nat_eq (k / 512) number) && is_marked old.hints k)
  pub room : length new.hints ≡ length old.hints

-- no row is claimed, and each is hinted at
pub record ForgetsClaims (old new : ClaimRows) : Type 0 where
  pub claimed : (k : ℕ) → slice_index new.claimed k ≡ 0
  pub rows : length new.claimed ≡ length old.claimed
  pub hints : (k : ℕ) → k < 64 * length old.hints → is_marked new.hints k ≡ true
  pub room : length new.hints ≡ length old.hints

-- rows after the node of a number was claimed at a version
abbrev pub with_claim : ClaimRows → ℕ → ℕ → ClaimRows
with_claim rows number version = record rows { claimed = slice_set rows.claimed number (version + 1) }

-- a number is the least that is hinted at
pub record IsFirstHint (rows : ClaimRows) (number : ℕ) : Type 0 where
  pub hinted : is_marked rows.hints number ≡ true
  pub room : number < 64 * length rows.hints
  pub least : (k : ℕ) → k < number → is_marked rows.hints k ≡ false

-- whether all eight children of a node are fresh in a table
abbrev pub children_fresh_in : {S : Type 0} → Table S → Node → Bool
children_fresh_in t n = list_all (λ k. fresh_in t (child n k)) (range_with_len 0 8)

-- whether four of them are, from one on
abbrev pub four_fresh_in : {S : Type 0} → Table S → Node → ℕ → Bool
four_fresh_in t n first = fresh_in t (child n first) && fresh_in t (child n (first + 1)) && fresh_in t (child n (first + 2)) && fresh_in t (child n (first + 3))

-- four summaries are those of the children of a node, from one on
pub record HasEntries {S : Type 0} (t : Table S) (n : Node) (first : ℕ) (a b c d : S) : Type 0 where
  pub a_is : Some a ≡ entry_in t (child n first)
  pub b_is : Some b ≡ entry_in t (child n (first + 1))
  pub c_is : Some c ≡ entry_in t (child n (first + 2))
  pub d_is : Some d ≡ entry_in t (child n (first + 3))

-- above level 1 the eight children of a node are fresh in a table
abbrev pub IsReady : {S : Type 0} → Table S → Node → Type 0
IsReady t n = 1 < n.level → children_fresh_in t n ≡ true

-- whether a node wants a job by a table, if `claimed` is the version at which it was claimed last, or none
abbrev pub wants_in : {S : Type 0} → Table S → Option ℕ → Node → Bool
wants_in t claimed n =
    whole_in t n && not (fresh_in t n) && not (is_version (touched_in t n) claimed) && (nat_eq n.level 1 || children_fresh_in t n)

-- the node of a level that has a number
abbrev pub node_at : ℕ → ℕ → Node
node_at level number = record { level = level; number = number }

-- whether the node of a level and a number wants a job by a table, claimed as the row of its number says
abbrev pub wants_at : {S : Type 0} → Table S → ℕ → ClaimRows → ℕ → Bool
wants_at t level rows number = wants_in t (version_of (slice_index rows.claimed number)) (node_at level number)

-- contents are those of a node by edits and a table: its elements, or what is kept for its eight children
abbrev pub AreContentsIn : {S : Type 0} → List Edit → Table S → Node → Contents S → Type 0
AreContentsIn edits t n (Elements xs) = (n.level ≡ 1) × (xs ≡ elements_under edits n)
AreContentsIn edits t n (Children summaries) = (1 < n.level) × ((k : ℕ) → k < 8 → slice_get (in_order summaries) k ≡ entry_in t (child n k))

-- the nodes of a level can be served: those that want a job are hinted at, and there are rows for all that are whole
pub record CanServe {S : Type 0} (t : Table S) (level : ℕ) (rows : ClaimRows) : Type 0 where
  pub low : 1 ≤ level
  pub high : level ≤ 6
  pub hints : (k : ℕ) → wants_at t level rows k ≡ true → is_marked rows.hints k ≡ true
  pub rows_enough : t.size ≤ length rows.claimed * 8 ^ level

-- the least node of a level that wants a job was picked, and is claimed at the number of the edit that touched it last
pub record Picks {S : Type 0} (t : Table S) (level : ℕ) (old new : ClaimRows) (job : Node × ℕ) : Type 0 where
  pub level_is : job.0.level ≡ level
  pub wants : wants_at t level old job.0.number ≡ true
  pub least : (k : ℕ) → k < job.0.number → wants_at t level old k ≡ false
  pub version : job.1 ≡ touched_in t job.0
  pub claimed : new.claimed ≡ slice_set old.claimed job.0.number (job.1 + 1)
  pub inside : job.0.number < length old.claimed
  pub hints : (k : ℕ) → wants_at t level new k ≡ true → is_marked new.hints k ≡ true
  pub room : length new.hints ≡ length old.hints

-- no node of a level wants a job
pub record Passes {S : Type 0} (t : Table S) (level : ℕ) (old new : ClaimRows) : Type 0 where
  pub none : (k : ℕ) → wants_at t level old k ≡ false
  pub claimed : new.claimed ≡ old.claimed
  pub room : length new.hints ≡ length old.hints

-- what becomes of the rows of a level, by the node that was picked, if one was
abbrev pub GivesNext : {S : Type 0} → Table S → ℕ → ClaimRows → ClaimRows → Option (Node × ℕ) → Type 0
GivesNext t level old new None = Passes t level old new
GivesNext t level old new (Some job) = Picks t level old new job

-- a node is hinted at, if it is one of the table, and nothing else has changed
pub record HintsNode (old new : ClaimTable) (node : Node) : Type 0 where
  pub claimed : (n : Node) → claimed_in new n ≡ claimed_in old n
  pub hints : (n : Node) → is_hinted new n ≡ ((is_node n && same_node n node) || is_hinted old n)
  pub blocks : claim_blocks new ≡ claim_blocks old

-- the least node that wants a job was picked, and is claimed at the number of the edit that touched it last
pub record ServesNode {S : Type 0} (t : Table S) (old new : ClaimTable) (job : Node × ℕ) : Type 0 where
  pub wants : wants_in t (claimed_in old job.0) job.0 ≡ true
  pub version : job.1 ≡ touched_in t job.0
  pub before : (n : Node) → Before n job.0 → wants_in t (claimed_in old n) n ≡ false
  pub claimed : (n : Node) → claimed_in new n ≡ (if same_node n job.0 then Some job.1 else claimed_in old n)
  pub hints : (n : Node) → wants_in t (claimed_in new n) n ≡ true → is_hinted new n ≡ true
  pub blocks : claim_blocks new ≡ claim_blocks old

-- no node wants a job
pub record ServesNone {S : Type 0} (t : Table S) (old new : ClaimTable) : Type 0 where
  pub none : (n : Node) → wants_in t (claimed_in old n) n ≡ false
  pub claimed : (n : Node) → claimed_in new n ≡ claimed_in old n
  pub blocks : claim_blocks new ≡ claim_blocks old

-- what becomes of the claims, by the node that was picked, if one was
abbrev pub ServesNext : {S : Type 0} → Table S → ClaimTable → ClaimTable → Option (Node × ℕ) → Type 0
ServesNext t old new None = ServesNone t old new
ServesNext t old new (Some job) = ServesNode t old new job

-- each node that wants a job, by a table, is hinted at
abbrev pub HintsWants : {S : Type 0} → Table S → ClaimTable → Type 0
HintsWants t c = (n : Node) → wants_in t (claimed_in c n) n ≡ true → is_hinted c n ≡ true

-- a job is that of a node at a version by a body: it carries the node's contents
pub record IsJobOf {B S : Type 0} (edits : List Edit) (t : Table S) (node : Node) (version : ℕ) (body : B) (job : Carried B S) : Type 0 where
  pub node_is : job.node ≡ node
  pub version_is : job.version ≡ version
  pub contents : AreContentsIn edits t node job.contents
  pub body_is : job.body ≡ body
