-- Leaves over the blocks of a list.
use Rattle.std.specs.Prelude.{◌≡◌, ℕ, ℤ, ◌*◌, ◌<◌, ◌≤◌, List, length, take, drop}
use Rattle.std.specs.List.{slice_index_or}
use Rattle.lv_bodies.specs.Body.{Operations, fold_of}

-- the eight elements of a block, if it is whole
abbrev pub block_of : ℕ → List ℤ → List ℤ
block_of b xs = take 8 (drop (b * 8) xs)

-- the leaves are those of the first blocks, which are whole: each is the fold of its block's elements
pub record AreLeaves {S : Type 0} (o : Operations S) (xs : List ℤ) (sums : List S) : Type 0 where
  pub within : 8 * length sums ≤ length xs
  pub sums_are : (b : ℕ) → b < length sums → slice_index_or sums b o.identity ≡ fold_of o (block_of b xs)
