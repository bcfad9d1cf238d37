-- Edits on a plain list: the effect of each one, and the list that all of them make of the empty list.
use Rattle.std.specs.Prelude.{ℤ, ◌-◌, ◌&&◌, Option, Some, None, option_and_then, unwrap_or, IsSome, List, [], ◌∷◌, ◌++◌, length, take, fold, slice_set, nat_le, nat_lt, if◌then◌else◌}
use Rattle.std.specs.List.{swap}
use Rattle.lv_geometry.specs.Bounds.{Bounds}
use Rattle.lv_edits.specs.declared.edit.Edit.{Edit}
use Rattle.lv_edits.specs.declared.edit.Edit.TheVariants.{Push, Pop, Write, Reserve, Swap, Truncate}

-- the list after one edit, or nothing if the edit isn't possible: a pop drops the last element, a reserve leaves the list as it is,
-- a swap exchanges two existing elements, and a truncate keeps the first n elements if there are so many
abbrev pub applied : List ℤ → Edit → Option (List ℤ)
applied xs (Push x) = Some (xs ++ x ∷ [])
applied xs Pop = if nat_lt 0 (length xs) then Some (take (length xs - 1) xs) else None
applied xs (Write i x) = if nat_lt i (length xs) then Some (slice_set xs i x) else None
applied xs (Reserve n) = Some xs
applied xs (Swap i j) = if nat_lt i (length xs) && nat_lt j (length xs) then Some (swap xs i j) else None
applied xs (Truncate n) = if nat_le n (length xs) then Some (take n xs) else None

-- the list after all edits, made in order on the empty list, or nothing if one of them isn't possible
unfoldable pub replayed : List Edit → Option (List ℤ)
replayed edits = fold (λ list edit. option_and_then (λ xs. applied xs edit) list) (Some []) edits

-- a journal is legal if each edit is possible when its turn comes
abbrev pub IsLegal : List Edit → Type 0
IsLegal edits = IsSome (replayed edits)

-- the list after some edits; empty if one of them isn't possible
unfoldable pub list_of : List Edit → List ℤ
list_of edits = unwrap_or (replayed edits) []

-- the model of a vector: its limits, and the edits that it accepted
pub record History : Type 0 where
  pub limits : Bounds
  pub journal : List Edit

-- a history with one more edit
abbrev pub with_edit : History → Edit → History
with_edit h edit = record h { journal = h.journal ++ edit ∷ [] }
