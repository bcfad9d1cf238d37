-- What the calls of a table of summaries change, node by node.
use Rattle.std.specs.Prelude.{◌≡◌, ℕ, ◌+◌, Bool, false, ◌&&◌, Some, List, length, slice_get, nat_eq, nat_le, nat_lt, if◌then◌else◌}
use Rattle.std.specs.List.{list_any}
use Rattle.lv_geometry.specs.declared.nodes.Node.{Node}
use Rattle.lv_geometry.specs.Nodes.{covers, is_node, same_node}
use Rattle.lv_summary.specs.declared.accepted.Accepted.{Accepted}
use Rattle.lv_summary.specs.declared.accepted.Accepted.TheVariants.{Installed, Held, Stale}
use Rattle.lv_summary.specs.Table.{Table, blocks_in, kept_in, touched_in}

-- whether two tables answer alike for every node, whatever rows they have room for
pub record AnswersAlike {S : Type 0} (old new : Table S) : Type 0 where
  pub size : new.size ≡ old.size
  pub touched : (n : Node) → touched_in new n ≡ touched_in old n
  pub kept : (n : Node) → kept_in new n ≡ kept_in old n

-- the vector has another size, and nothing else has changed
pub record HasSize {S : Type 0} (old new : Table S) (size : ℕ) : Type 0 where
  pub size_is : new.size ≡ size
  pub blocks : blocks_in new ≡ blocks_in old
  pub touched : (n : Node) → touched_in new n ≡ touched_in old n
  pub kept : (n : Node) → kept_in new n ≡ kept_in old n

-- edit `edit` touched every node that has index i, and nothing else has changed
pub record Touches {S : Type 0} (old new : Table S) (i edit : ℕ) : Type 0 where
  pub size : new.size ≡ old.size
  pub blocks : blocks_in new ≡ blocks_in old
  pub touched : (n : Node) → touched_in new n ≡ (if is_node n && covers n i then edit else touched_in old n)
  pub kept : (n : Node) → kept_in new n ≡ kept_in old n

-- edit `edit` touched every node that has one of some indices, and nothing else has changed
pub record TouchesEach {S : Type 0} (old new : Table S) (indices : List ℕ) (edit : ℕ) : Type 0 where
  pub size : new.size ≡ old.size
  pub blocks : blocks_in new ≡ blocks_in old
  pub touched : (n : Node) → touched_in new n ≡ (if is_node n && list_any (covers n) indices then edit else touched_in old n)
  pub kept : (n : Node) → kept_in new n ≡ kept_in old n

-- a summary of this version was put in place of what was kept for a node, and nothing else has changed
pub record Keeps {S : Type 0} (old new : Table S) (node : Node) (version : ℕ) (s : S) : Type 0 where
  pub size : new.size ≡ old.size
  pub blocks : blocks_in new ≡ blocks_in old
  pub touched : (n : Node) → touched_in new n ≡ touched_in old n
  pub kept : (n : Node) → kept_in new n ≡ (if same_node n node then Some (version, s) else kept_in old n)

-- whether a node is one of so many of a level side by side, from one on
abbrev pub is_in_run : ℕ → ℕ → ℕ → Node → Bool
is_in_run level first count n = nat_eq n.level level && nat_le first n.number && nat_lt n.number (first + count)

-- summaries of their nodes' touched numbers were put in place of what was kept for nodes of a level side by side, from one on, and
-- nothing else has changed
pub record KeepsRun {S : Type 0} (old new : Table S) (level first : ℕ) (summaries : List S) : Type 0 where
  pub size : new.size ≡ old.size
  pub blocks : blocks_in new ≡ blocks_in old
  pub touched : (n : Node) → touched_in new n ≡ touched_in old n
  pub kept : (k : ℕ) (s : S) → slice_get summaries k ≡ Some s →
      kept_in new (record { level = level; number = first + k }) ≡ Some (touched_in old (record { level = level; number = first + k }), s)
  pub others_kept : (n : Node) → is_in_run level first (length summaries) n ≡ false → kept_in new n ≡ kept_in old n

-- an outcome changes the table only if it is installed
abbrev pub AfterDelivery : {S : Type 0} → Table S → Table S → Node → ℕ → S → Accepted → Type 0
AfterDelivery old new n v s Installed = Keeps old new n v s
AfterDelivery old new n v s Held = new ≡ old
AfterDelivery old new n v s (Stale now) = new ≡ old
