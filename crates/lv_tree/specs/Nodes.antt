-- Where nodes are stored: leaves are the cells from place lo up to hi, with hi at most 2 * lo. The node at place p covers the 2 ^ j leaves from
-- place p * 2 ^ j on, if all of these are leaves. So the children of the node at p are at 2 * p and 2 * p + 1.
use Rattle.std.specs.Prelude.{◌≡◌, ◌⊎◌, ℕ, ◌+◌, ◌-◌, ◌*◌, ◌^◌, ◌<◌, ◌≤◌, List, length, slice_index_or, slice_set}
use Rattle.lv_bodies.specs.Body.{Operations}
use Rattle.lv_tree.specs.Folds.{AreFolds}
use Rattle.lv_tree.specs.Parts.{part_of, run_of}

-- the node at p over 2 ^ j leaves is their join
abbrev pub IsRight : {S : Type 0} → Operations S → List S → ℕ → ℕ → Type 0
IsRight o cells j p = slice_index_or cells p o.identity ≡ part_of o cells (p * 2 ^ j) (p * 2 ^ j + 2 ^ j)

-- each node that covers leaves only is right
pub record IsTree {S : Type 0} (o : Operations S) (lo hi : ℕ) (cells : List S) : Type 0 where
  pub node : (j p : ℕ) → lo ≤ p * 2 ^ j → p * 2 ^ j + 2 ^ j ≤ hi → IsRight o cells j p

-- each node that covers leaves only is right, apart from those over the leaf `at` from level k on
pub record IsTreeBut {S : Type 0} (o : Operations S) (lo hi at k : ℕ) (cells : List S) : Type 0 where
  pub node : (j p : ℕ) → lo ≤ p * 2 ^ j → p * 2 ^ j + 2 ^ j ≤ hi → (j < k) ⊎ ((at < p * 2 ^ j) ⊎ (p * 2 ^ j + 2 ^ j ≤ at)) → IsRight o cells j p

-- each node was right with another summary at the leaf `at`
pub record WasTree {S : Type 0} (o : Operations S) (lo hi at : ℕ) (cells : List S) : Type 0 where
  pub other : S
  pub tree : IsTree o lo hi (slice_set cells at other)
  pub folds : AreFolds o (run_of (slice_set cells at other) lo (hi - lo))

-- there is room for so many leaves: in cells that are written, or in memory for twice as many cells, none of them written yet
pub record HasCells (room lo size capacity : ℕ) : Type 0 where
  pub cells : (lo + room ≤ size) ⊎ ((size ≡ 0) × (2 * room ≤ capacity))
  pub few : room ≤ 2 ^ 61

-- what is kept: leaves in the cells from lo up to hi, their nodes before them, and room
pub record IsKept {S : Type 0} (o : Operations S) (lo hi room capacity : ℕ) (cells : List S) : Type 0 where
  pub tree : IsTree o lo hi cells
  pub folds : AreFolds o (run_of cells lo (hi - lo))
  pub order : lo ≤ hi
  pub inside : hi ≤ length cells
  pub octave : length cells ≤ 2 * lo
  pub few : length cells ≤ 2 ^ 62
  pub within_room : hi - lo ≤ room
  pub has_cells : HasCells room lo (length cells) capacity

-- the cells `more` are twice `room` ones, and have the leaves of others from `room` on
pub record HasLeaves {S : Type 0} (cells more : List S) (lo count room : ℕ) : Type 0 where
  pub size : length more ≡ 2 * room
  pub leaves : run_of more room count ≡ run_of cells lo count

-- the cells `more` have the leaves of others from place `to` on, their nodes, and room for one more
pub record HasRoom {S : Type 0} (o : Operations S) (cells more : List S) (lo count to : ℕ) : Type 0 where
  pub tree : IsTree o to (to + count) more
  pub leaves : run_of more to count ≡ run_of cells lo count
  pub room : to + count < length more
  pub octave : length more ≤ 2 * to
  pub few : length more ≤ 2 ^ 62

-- the cells `more` have the leaves of others from place `to` on, their nodes, and room for so many in all
pub record HasRooms {S : Type 0} (o : Operations S) (cells more : List S) (lo count to room capacity : ℕ) : Type 0 where
  pub tree : IsTree o to (to + count) more
  pub leaves : run_of more to count ≡ run_of cells lo count
  pub inside : to + count ≤ length more
  pub octave : length more ≤ 2 * to
  pub few : length more ≤ 2 ^ 62
  pub has_cells : HasCells room to (length more) capacity
