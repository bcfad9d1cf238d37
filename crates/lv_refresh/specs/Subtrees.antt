-- Jobs of whole subtrees: the node of level 4 that has a number, and all nodes below it.
use Rattle.std.specs.Prelude.{◌≡◌, ℕ, ℤ, ◌+◌, ◌-◌, ◌*◌, ◌/◌, ◌<◌, ◌≤◌, Bool, true, false, ◌&&◌, nat_eq, nat_le, Option, Some, None, List, length, slice_get, slice_range, if◌then◌else◌}
use Rattle.lv_geometry.specs.declared.nodes.Node.{Node}
use Rattle.lv_geometry.specs.Nodes.{covers, first_index, is_node, width}
use Rattle.lv_bodies.specs.Body.{Operations, fold_of}
use Rattle.lv_summary.specs.Table.{Table, blocks_in, kept_in, touched_in}
use Rattle.lv_refresh.specs.Inner.{node_at}

-- a subtree's elements, copied, with its number and the body to fold them by
pub record Copied (B : Type 0) : Type 0 where
  pub number : ℕ
  pub elements : List ℤ
  pub body : B

-- a subtree has 4,096 elements
abbrev pub IsCopied : {B : Type 0} → Copied B → Type 0
IsCopied copied = length copied.elements ≡ 4096

-- summaries are the folds of elements, so many each, from left to right
pub record AreFolds {S : Type 0} (o : Operations S) (elements : List ℤ) (each : ℕ) (summaries : List S) : Type 0 where
  pub many : length summaries * each ≡ length elements
  pub folds : (k : ℕ) → k < length summaries → slice_get summaries k ≡ Some (fold_of o (slice_range elements (each * k) (each * k + each)))

-- whether a node is one of a subtree: its level is 4 or less, and the subtree's node of level 4 has its first index
abbrev pub is_in_subtree : ℕ → Node → Bool
is_in_subtree number n = is_node n && nat_le n.level 4 && covers (node_at 4 number) (first_index n)

-- whether a node is a block of a subtree
abbrev pub is_block_of : ℕ → Node → Bool
is_block_of number n = nat_eq n.level 1 && nat_eq (n.number / 512) number

-- the elements of a node of a subtree, out of those that were copied
abbrev pub copied_under : {B : Type 0} → Copied B → Node → List ℤ
copied_under copied n = slice_range copied.elements (first_index n - 4096 * copied.number) (first_index n - 4096 * copied.number + width n)

-- for each node of a subtree the fold of its elements was put in place of what was kept, with the number of the edit that touched it
-- last, and nothing else has changed
pub record KeepsSubtree {B S : Type 0} (o : Operations S) (old new : Table S) (copied : Copied B) : Type 0 where
  pub size : new.size ≡ old.size
  pub blocks : blocks_in new ≡ blocks_in old
  pub touched : (n : Node) → touched_in new n ≡ touched_in old n
  pub kept : (n : Node) → is_in_subtree copied.number n ≡ true → kept_in new n ≡ Some (touched_in old n, fold_of o (copied_under copied n))
  pub others_kept : (n : Node) → is_in_subtree copied.number n ≡ false → kept_in new n ≡ kept_in old n

-- a subtree is inside so many elements
abbrev pub IsInside : ℕ → ℕ → Type 0
IsInside number size = (number + 1) * 4096 ≤ size

-- what an outcome still has: nothing once it was installed
abbrev pub unless_spent : {B : Type 0} → Bool → Copied B → Option (Copied B)
unless_spent is_spent copied = if is_spent then None else Some copied
