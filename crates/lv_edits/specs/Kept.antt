-- What holds of every vector's history.
use Rattle.std.specs.Prelude.{◌≡◌, Some, ◌≤◌, length, All}
use Rattle.lv_geometry.specs.Bounds.{AreAllowed}
use Rattle.lv_geometry.specs.Cells.{capacity_of}
use Rattle.lv_geometry.specs.Elements.{IsElement}
use Rattle.lv_edits.specs.declared.edit.Edit.{Edit}
use Rattle.lv_edits.specs.declared.edit.Edit.TheVariants.{Push, Pop, Write, Reserve, Swap, Truncate}
use Rattle.lv_edits.specs.History.{History, list_of, replayed}

-- the limits are allowed, the journal is legal, and the journal and the list are within the limits; the list has at most 1048568
-- elements, which is the capacity of 17 buckets, and each element is a signed number of 64 bits
pub record IsLegalInLimits (h : History) : Type 0 where
  pub allowed : AreAllowed h.limits.buckets h.limits.edits
  pub legal : replayed h.journal ≡ Some (list_of h.journal)
  pub edits : length h.journal ≤ h.limits.edits
  pub size : length (list_of h.journal) ≤ capacity_of h.limits.buckets
  pub few : length (list_of h.journal) ≤ 1048568
  pub elements : All IsElement (list_of h.journal)

-- the element that an edit puts into the list, if it puts one, is a signed number of 64 bits
abbrev pub CarriesElement : Edit → Type 0
CarriesElement (Push x) = IsElement x
CarriesElement Pop = Unit {0}
CarriesElement (Write i x) = IsElement x
CarriesElement (Reserve n) = Unit {0}
CarriesElement (Swap i j) = Unit {0}
CarriesElement (Truncate n) = Unit {0}
