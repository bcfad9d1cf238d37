-- Edits by their numbers in C, a `livevec_edit_kind` or 7 of an expiry: an index or how many elements, a second index, and a value.
use Rattle.std.specs.Prelude.{ℕ, ℤ, Option, Some, None, [], ◌∷◌, slice_get, unwrap_or}
use Rattle.lv_edits.specs.declared.edit.Edit.{Edit}
use Rattle.lv_edits.specs.declared.edit.Edit.TheVariants as edits
use Rattle.lv_machine.specs.declared.events.Call.{Call}
use Rattle.lv_machine.specs.declared.events.Call.TheVariants as calls
use Rattle.lv_series.specs.declared.edits.LongEdit.{LongEdit}
use Rattle.lv_series.specs.declared.edits.LongEdit.TheVariants as longs

-- the edit of a vector that a number names, if it names one
abbrev pub edit_at : ℕ → ℕ → ℕ → ℤ → Option Edit
edit_at what i j x =
    unwrap_or (slice_get (None ∷ Some (edits.Push x) ∷ Some edits.Pop ∷ Some (edits.Write i x) ∷ Some (edits.Reserve i) ∷ Some (edits.Swap i j) ∷ Some (edits.Truncate i) ∷ []) what) None

-- the edit of a series that a number names, if it names one; a series has nothing to reserve
abbrev pub long_edit_at : ℕ → ℕ → ℕ → ℤ → Option LongEdit
long_edit_at what i j x =
    unwrap_or (slice_get (None ∷ Some (longs.Push x) ∷ Some longs.Pop ∷ Some (longs.Write i x) ∷ None ∷ Some (longs.Swap i j) ∷ Some (longs.Truncate i) ∷ Some (longs.Expire i) ∷ []) what) None

-- a call of a seat: the first three edits, a look at an element or at how many there are, and a refresh of a block
abbrev pub seat_call_at : ℕ → ℕ → ℤ → Option Call
seat_call_at what i x =
    unwrap_or (slice_get (None ∷ Some (calls.Push x) ∷ Some calls.Pop ∷ Some (calls.Write i x) ∷ Some (calls.Get i) ∷ Some calls.Size ∷ Some (calls.Refresh i) ∷ []) what) None
