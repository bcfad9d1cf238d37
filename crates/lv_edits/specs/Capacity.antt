-- How many cells are open after a list of edits: as many as were ever needed or reserved, rounded up to whole buckets.
use Rattle.std.specs.Prelude.{◌≡◌, ℕ, ◌+◌, ◌≤◌, max, unwrap_or, List, length, take, map, fold, nat_le, All}
use Rattle.std.specs.List.{range_with_len, find}
use Rattle.lv_geometry.specs.Cells.{capacity_of}
use Rattle.lv_edits.specs.declared.edit.Edit.{Edit}
use Rattle.lv_edits.specs.declared.edit.Edit.TheVariants.{Reserve}
use Rattle.lv_edits.specs.History.{list_of}

-- how many cells an edit reserves
abbrev pub reserved_by : Edit → ℕ
reserved_by (Reserve n) = n
reserved_by _ = 0

-- the greatest length that the list had after any prefix of the edits
unfoldable pub longest : List Edit → ℕ
longest edits = fold (λ most j. max most (length (list_of (take j edits)))) 0 (range_with_len 0 (length edits + 1))

-- the most cells that one edit reserved
unfoldable pub most_reserved : List Edit → ℕ
most_reserved edits = fold (λ most edit. max most (reserved_by edit)) 0 edits

-- the least capacity of 0 to 17 buckets that isn't below n, or 0 if all of them are below n
unfoldable pub least_capacity : ℕ → ℕ
least_capacity n = unwrap_or (find (λ c. nat_le n c) (map capacity_of (range_with_len 0 18))) 0

-- the capacity after some edits: the least one that sufficed at all times
unfoldable pub capacity_after : List Edit → ℕ
capacity_after edits = least_capacity (max (longest edits) (most_reserved edits))

-- c cells suffice for the list after each prefix of the edits, and for every reserve
pub record Suffices (edits : List Edit) (c : ℕ) : Type 0 where
  pub lists : (j : ℕ) → j ≤ length edits → length (list_of (take j edits)) ≤ c
  pub reserves : All (λ edit. reserved_by edit ≤ c) edits

-- c is the least capacity of some number of buckets that suffices
pub record IsCapacityAfter (edits : List Edit) (c : ℕ) : Type 0 where
  pub buckets : ℕ
  pub whole : c ≡ capacity_of buckets
  pub enough : Suffices edits c
  pub least : (k : ℕ) → Suffices edits (capacity_of k) → c ≤ capacity_of k
