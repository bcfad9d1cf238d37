-- Invariants of the fields of `Edits`.
use Rattle.std.specs.Prelude.{◌≡◌, ℕ, ℤ, Option, Some, None, true, max, List, length, nat_eq, vec_len, vec_capacity, ◌-◌, if◌then◌else◌}
use Rattle.lv_geometry.specs.Cells.{AreFewest}
use Rattle.lv_store.specs.Inner.{IsStore}
use Rattle.lv_store.specs.State.{StoreState, are_at, elements_of}
use Rattle.lv_edits.specs.declared.edit.Edit.{Edit}
use Rattle.lv_edits.specs.declared.journal.Journal.{Journal}
use Rattle.lv_edits.specs.Capacity.{longest, most_reserved}
use Rattle.lv_edits.specs.History.{History, list_of}
use Rattle.lv_edits.specs.Kept.{IsLegalInLimits}
use Rattle.lv_edits.specs.Touch.{LastWroteAt}

-- the edits that a journal has, the first of them first
abbrev pub noted : Journal → List Edit
noted journal = journal.edits.items

-- for how many more edits a journal has room
abbrev pub room : Journal → ℕ
room journal = vec_capacity journal.edits - vec_len journal.edits

-- `buckets` is the least number of buckets with room for the longest list there was and for the most that was reserved
abbrev pub AreNeeded : List Edit → ℕ → Type 0
AreNeeded journal buckets = AreFewest (max (longest journal) (most_reserved journal)) buckets

-- the write of a swap at its second index, if that differs from the first: it writes the element that was at the first
abbrev pub write_at_second : ℕ → ℕ → ℤ → Option (ℕ × ℤ)
write_at_second first second before = if nat_eq first second then None else Some (second, before)

-- the history that a store and a journal represent
abbrev pub history_of : StoreState → List Edit → History
history_of store journal = record { limits = store.limits; journal = journal }

-- a store has the contents that a journal leaves: the journal is legal within the store's limits, its list is the store's elements, as
-- many buckets are open as are needed, the two have the same last edit, and a write is pending only at an index where that edit wrote
pub record HoldsReplay (store : StoreState) (journal : List Edit) : Type 0 where
  pub sound : IsStore store
  pub kept : IsLegalInLimits record { limits = store.limits; journal = journal }
  pub items : elements_of store ≡ list_of journal
  pub needed : AreNeeded journal store.buckets
  pub edit : store.descriptor.edit ≡ length journal
  pub pending : (i : ℕ) → are_at i store.descriptor.pending ≡ true → LastWroteAt journal i
