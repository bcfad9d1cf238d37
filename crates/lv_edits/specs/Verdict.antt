-- Whether an edit is accepted, and what it returns.
use Rattle.std.specs.Prelude.{◌≡◌, ℕ, ℤ, pos, ◌+◌, ◌-◌, ◌&&◌, Option, Some, None, Result, Ok, Err, ok_or, ◌⊎◌, List, [], ◌∷◌, ◌++◌, length, slice_get, nat_lt, nat_eq, if◌then◌else◌}
use Rattle.std.specs.List.{slice_index_or}
use Rattle.lv_geometry.specs.Bounds.{Bounds}
use Rattle.lv_geometry.specs.Cells.{capacity_of}
use Rattle.lv_geometry.specs.declared.refusals.Refusal.{Refusal}
use Rattle.lv_geometry.specs.declared.refusals.Refusal.TheVariants.{Worn, Empty, OutOfRange, TooLarge, Full, NoMemory}
use Rattle.lv_edits.specs.declared.edit.Edit.{Edit}
use Rattle.lv_edits.specs.declared.edit.Edit.TheVariants.{Push, Pop, Write, Reserve, Swap, Truncate}
use Rattle.lv_edits.specs.declared.receipt.Receipt.{Receipt}
use Rattle.lv_edits.specs.declared.receipt.Receipt.TheVariants.{Pushed, Popped, Written, Reserved, Swapped, Truncated}
use Rattle.lv_edits.specs.Capacity.{capacity_after}
use Rattle.lv_edits.specs.History.{History, list_of, with_edit}

-- why an edit is rejected on a list, if the limit of edits is not reached; each kind of edit has one reason of its own
abbrev pub refused_on : Bounds → List ℤ → Edit → Option Refusal
refused_on limits xs (Push x) = if nat_eq (length xs) (capacity_of limits.buckets) then Some Full else None
refused_on limits xs Pop = if nat_eq (length xs) 0 then Some Empty else None
refused_on limits xs (Write i x) = if nat_lt i (length xs) then None else Some (OutOfRange (length xs))
refused_on limits xs (Reserve n) = if nat_lt (capacity_of limits.buckets) n then Some (TooLarge (capacity_of limits.buckets)) else None
refused_on limits xs (Swap i j) = if nat_lt i (length xs) && nat_lt j (length xs) then None else Some (OutOfRange (length xs))
refused_on limits xs (Truncate n) = if nat_lt (length xs) n then Some (OutOfRange (length xs)) else None

-- the first error that applies to an edit if memory suffices, or none: the limit of edits comes before all others
abbrev pub verdict_of : Bounds → List Edit → Edit → Option Refusal
verdict_of limits edits edit = if nat_eq (length edits) limits.edits then Some Worn else refused_on limits (list_of edits) edit

-- the result (*receipt*) of an accepted edit: its number, and by kind the index of the new element, the element that was dropped, the
-- element that was overwritten, the capacity, the elements that are at the two indices now, or how many elements were dropped
abbrev pub receipt_of : List Edit → Edit → Receipt
receipt_of edits (Push x) = Pushed (length edits + 1) (length (list_of edits))
receipt_of edits Pop = Popped (length edits + 1) (slice_index_or (list_of edits) (length (list_of edits) - 1) (pos 0))
receipt_of edits (Write i x) = Written (length edits + 1) (slice_index_or (list_of edits) i (pos 0))
receipt_of edits (Reserve n) = Reserved (length edits + 1) (capacity_after (edits ++ Reserve n ∷ []))
receipt_of edits (Swap i j) = Swapped (length edits + 1) (slice_index_or (list_of edits) j (pos 0)) (slice_index_or (list_of edits) i (pos 0))
receipt_of edits (Truncate n) = Truncated (length edits + 1) (length (list_of edits) - n)

-- an error is the one that applies, or `NoMemory` if none applies
abbrev pub IsRefusal : Option Refusal → Refusal → Type 0
IsRefusal known refusal = (known ≡ Some refusal) ⊎ ((known ≡ None) × (refusal ≡ NoMemory))

-- an edit was accepted: no error applies to it, it returns its receipt, and the journal has it at its end
pub record Accepts (old : History) (edit : Edit) (receipt : Receipt) (new : History) : Type 0 where
  pub verdict : verdict_of old.limits old.journal edit ≡ None
  pub receipt_is : receipt ≡ receipt_of old.journal edit
  pub journal : new ≡ with_edit old edit

-- an edit was rejected with the first error that applies, or with `NoMemory` if none does; nothing has changed
pub record Refuses (old : History) (edit : Edit) (refusal : Refusal) (new : History) : Type 0 where
  pub verdict : IsRefusal (verdict_of old.limits old.journal edit) refusal
  pub same : new ≡ old

-- the result of a call that makes an edit
abbrev pub Answers : History → Edit → Result Receipt Refusal → History → Type 0
Answers old edit (Ok receipt) new = Accepts old edit receipt new
Answers old edit (Err refusal) new = Refuses old edit refusal new

-- the element at an index, or the error `OutOfRange` with the size
abbrev pub element_at : List Edit → ℕ → Result ℤ Refusal
element_at edits i = ok_or (slice_get (list_of edits) i) (OutOfRange (length (list_of edits)))
