-- The elements that several threads fold or scan, in a vector or in a slice.
use Rattle.std.specs.List.{slice_range}
use Rattle.lv_bodies.specs.Body.{CanFold}
use Rattle.std.specs.Prelude.{ℤ, ◌≤◌, List, length}
use Rattle.lv_edits.specs.History.{list_of}
use Rattle.lv_reduce.specs.declared.rows.Part.{Part}
use Rattle.lv_reduce.specs.declared.rows.Row.{Row}
use Rattle.lv_reduce.specs.declared.rows.Row.TheVariants.{Cells, Slice}

-- all elements of a row
abbrev pub elements_in : Row → List ℤ
elements_in (Cells cells) = list_of cells.now.journal
elements_in (Slice xs) = xs.now

-- the elements of a part
abbrev pub elements_of : Part → List ℤ
elements_of part = slice_range (elements_in part.row) part.lo part.hi

-- a part of a row that may be folded
pub record IsPart (part : Part) : Type 0 where
  pub can : CanFold (elements_in part.row)
  pub order : part.lo ≤ part.hi
  pub inside : part.hi ≤ length (elements_in part.row)
