-- Cached folds of a list's blocks, of 1,024 elements each.
use Rattle.std.specs.Prelude.{◌≡◌, ℕ, ℤ, ◌+◌, ◌*◌, ◌-◌, ◌≤◌, Option, Some, None, List, ◌++◌, length, replicate, slice_range, All}
use Rattle.std.specs.List.{slice_index_or}
use Rattle.lv_geometry.specs.Elements.{IsElement}
use Rattle.lv_bodies.specs.AffineMaps.{affine_operations}
use Rattle.lv_bodies.specs.Body.{Operations, fold_of}
use Rattle.lv_bodies.specs.Extremes.{greatest_operations, least_operations}
use Rattle.lv_bodies.specs.Plain.{program_table}
use Rattle.lv_bodies.specs.RunTotals.{best_operations}
use Rattle.lv_bodies.specs.Sums.{sum_operations}
use Rattle.lv_bodies.specs.Tables.{automaton_operations}
use Rattle.lv_transcript.specs.declared.kind_folds.KindFolds.{KindFolds}

-- a block of a list
abbrev pub block_elements : List ℤ → ℕ → List ℤ
block_elements xs k = slice_range xs (k * 1024) ((k + 1) * 1024)

-- places for the folds of so many blocks: if there are fewer, empty places are added
abbrev pub with_places : {S : Type 0} → List (Option S) → ℕ → List (Option S)
with_places folds blocks = folds ++ replicate (blocks - length folds) None

-- a summary is the fold of some elements, each of 64 bits
pub record IsFold {S : Type 0} (o : Operations S) (xs : List ℤ) (s : S) : Type 0 where
  pub fold : s ≡ fold_of o xs
  pub elements : All IsElement xs

-- each cached value is the fold of its block, or is missing; the blocks are whole
pub record AreFolds {S : Type 0} (o : Operations S) (xs : List ℤ) (folds : List (Option S)) : Type 0 where
  pub whole : length folds * 1024 ≤ length xs
  pub right : (k : ℕ) (s : S) → slice_index_or folds k None ≡ Some s → IsFold o (block_elements xs k) s

-- the cached folds of each kind are right in this way
pub record AreKept (folds : KindFolds) (xs : List ℤ) : Type 0 where
  pub sum : AreFolds sum_operations xs folds.sum.items
  pub least : AreFolds least_operations xs folds.least.items
  pub greatest : AreFolds greatest_operations xs folds.greatest.items
  pub best : AreFolds best_operations xs folds.best.items
  pub affine : AreFolds affine_operations xs folds.affine.items
  pub automaton : AreFolds (automaton_operations program_table) xs folds.automaton.items
