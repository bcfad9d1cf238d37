-- How many reads a reduction over a range makes: one for each fresh node in the range that isn't part of a greater fresh node in it, and one for
-- each index of the range that is in no fresh node of that kind.
use Rattle.std.specs.Prelude.{◌≡◌, ℕ, ◌+◌, ◌-◌, ◌*◌, ◌%◌, ◌^◌, ◌≤◌, Bool, true, ◌&&◌, not, count_by, sum_by, nat_eq, nat_le}
use Rattle.std.specs.List.{list_any, range_with_len}
use Rattle.lv_geometry.specs.declared.nodes.Node.{Node}
use Rattle.lv_geometry.specs.Nodes.{first_index, over, width}

-- whether a node is fresh and inside the range
abbrev pub is_fresh_inside : (Node → Bool) → ℕ → ℕ → Node → Bool
is_fresh_inside fresh lo hi n = fresh n && (nat_le lo (first_index n) && nat_le (first_index n + width n) hi)

-- whether index i is in a used node of a level above l
abbrev pub is_in_greater : (Node → Bool) → ℕ → ℕ → ℕ → ℕ → Bool
is_in_greater fresh lo hi l i = list_any (λ level. is_fresh_inside fresh lo hi (over level i)) (range_with_len (l + 1) (6 - l))

-- whether a used node of level l begins at index i and is part of no greater used node
abbrev pub is_top : (Node → Bool) → ℕ → ℕ → ℕ → ℕ → Bool
is_top fresh lo hi l i = nat_eq (i % 8 ^ l) 0 && (is_fresh_inside fresh lo hi (over l i) && not (is_in_greater fresh lo hi l i))

-- whether index i of the range is in no used node
abbrev pub is_bare : (Node → Bool) → ℕ → ℕ → ℕ → Bool
is_bare fresh lo hi i = nat_le lo i && not (is_in_greater fresh lo hi 0 i)

-- how many summaries are read: those of the used nodes of all six levels that are part of no greater one
abbrev pub count_summaries : (Node → Bool) → ℕ → ℕ → ℕ
count_summaries fresh lo hi = sum_by (λ l. count_by (is_top fresh lo hi l) (range_with_len 0 hi)) (range_with_len 1 6)

-- how many cells are read
abbrev pub count_cells : (Node → Bool) → ℕ → ℕ → ℕ
count_cells fresh lo hi = count_by (is_bare fresh lo hi) (range_with_len 0 hi)

-- how many blocks inside the range aren't fresh
abbrev pub unfresh_blocks : (Node → Bool) → ℕ → ℕ → ℕ
unfresh_blocks fresh lo hi = count_by (λ b. nat_le lo (8 * b) && (nat_le (8 * b + 8) hi && not (fresh record { level = 1; number = b }))) (range_with_len 0 hi)

-- every node inside the range is fresh
abbrev pub AllFresh : (Node → Bool) → ℕ → ℕ → Type 0
AllFresh fresh lo hi = (n : Node) → lo ≤ first_index n → first_index n + width n ≤ hi → 1 ≤ n.level → n.level ≤ 6 → fresh n ≡ true

-- these counts of cells and summaries are those that a reduction reads
pub record IsCost (fresh : Node → Bool) (lo hi cells summaries : ℕ) : Type 0 where
  pub cells_are : cells ≡ count_cells fresh lo hi
  pub summaries_are : summaries ≡ count_summaries fresh lo hi

-- these counts of reads are few: at most 14 cells and 8 for each block inside the range that isn't fresh; and at most 14 cells and 84 summaries
-- if every node inside the range is fresh
pub record IsFew (fresh : Node → Bool) (lo hi cells summaries : ℕ) : Type 0 where
  pub bound : cells ≤ 14 + 8 * unfresh_blocks fresh lo hi
  pub when_fresh : AllFresh fresh lo hi → (cells ≤ 14) × (summaries ≤ 84)
