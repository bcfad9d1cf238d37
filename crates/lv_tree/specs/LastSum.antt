-- The sum that was returned last, and how a write changes it.
use Rattle.std.specs.Prelude.{◌≡◌, ℕ, ℤ, pos, ◌+◌, ◌%◌, ◌^◌, ◌<◌, ◌≤◌, Some, List, length}
use Rattle.std.specs.List.{slice_index_or, slice_range}
use Rattle.lv_bodies.specs.Body.{fold_of}
use Rattle.lv_bodies.specs.Plain.{remainder}
use Rattle.lv_bodies.specs.Sums.{sum_operations}
use Rattle.lv_edits.specs.declared.edit.Edit.{Edit}
use Rattle.lv_edits.specs.History.{History, list_of, replayed}
use Rattle.lv_tree.specs.declared.last_sum.LastSum.{LastSum}

-- the sum of the elements from index lo up to hi, modulo 2 ^ 64
abbrev pub sum_of_range : List Edit → ℕ → ℕ → ℕ
sum_of_range edits lo hi = fold_of sum_operations (slice_range (list_of edits) lo hi)

-- a sum is that of its range, which the list has
pub record IsSumOfRange (edits : List Edit) (last : LastSum) : Type 0 where
  pub order : last.lo ≤ last.hi
  pub inside : last.hi ≤ length (list_of edits)
  pub value_is : last.value ≡ sum_of_range edits last.lo last.hi

-- a write at an index of a legal history's list, where `before` is the element that it replaces
pub record IsWriteOver (h : History) (i : ℕ) (before : ℤ) : Type 0 where
  pub legal : replayed h.journal ≡ Some (list_of h.journal)
  pub inside : i < length (list_of h.journal)
  pub before_is : before ≡ slice_index_or (list_of h.journal) i (pos 0)

-- what has to be added to a sum modulo 2 ^ 64 when one element is replaced by another
abbrev pub IsDifference : ℤ → ℤ → ℕ → Type 0
IsDifference before x more = (more + remainder before (2 ^ 64)) % 2 ^ 64 ≡ remainder x (2 ^ 64)
