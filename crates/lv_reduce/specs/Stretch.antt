-- A range of a vector, copied.
use Rattle.std.specs.Prelude.{◌≡◌, ℕ, ℤ, None, List, length}
use Rattle.lv_edits.specs.declared.edit.Edit.{Edit}
use Rattle.lv_edits.specs.Ranges.{range_refusal, slice_of}

-- the body that is to fold the elements, the number of the last edit, and the elements
pub record StretchState (B : Type 0) : Type 0 where
  pub body : B
  pub edit : ℕ
  pub elements : List ℤ

-- it is a range of the vector: nothing refuses the range, and it has its elements at the last edit
pub record IsStretch {B : Type 0} (edits : List Edit) (lo hi : ℕ) (stretch : StretchState B) : Type 0 where
  pub granted : range_refusal edits lo hi ≡ None
  pub edit : stretch.edit ≡ length edits
  pub elements : stretch.elements ≡ slice_of edits lo hi
