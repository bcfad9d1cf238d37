-- Histories of the lock-free form: the accepted updates, each with its actor, the newest first.
use Rattle.std.specs.Prelude.{◌≡◌, ℕ, ℤ, ◌+◌, ◌<◌, None, List, [], ◌∷◌, ◌++◌, length, nat_eq, slice_index_or, if◌then◌else◌}
use Rattle.lv_bodies.specs.Parts.{IsShort}
use Rattle.lv_edits.specs.declared.edit.Edit.{Edit}
use Rattle.lv_edits.specs.declared.edit.Edit.TheVariants.{Push, Pop, Write}
use Rattle.lv_edits.specs.History.{list_of}
use Rattle.lv_edits.specs.Touch.{indices_written}
use Rattle.lv_edits.specs.Verdict.{verdict_of}
use Rattle.lv_machine.specs.declared.entries.Entry.{Entry}
use Rattle.lv_machine.specs.Terms.{Terms}
use Rattle.lv_machine.specs.Words.{bits_written, cell_word, descriptor}

-- The updates of a history, the oldest first, as a journal has them.
unfoldable pub edits_of : List Entry → List Edit
edits_of [] = []
edits_of (e ∷ h) = edits_of h ++ e.edit ∷ []

-- The list after the updates of a history.
abbrev pub elements_of : List Entry → List ℤ
elements_of h = list_of (edits_of h)

-- The entries of a history that one actor made.
unfoldable pub own : ℕ → List Entry → List Entry
own a [] = []
own a (e ∷ h) = if nat_eq e.actor a then e ∷ own a h else own a h

-- A history is an earlier state of another: later entries lead from the first to the second.
pub record Ends (earlier whole : List Entry) : Type 0 where
  pub later : List Entry
  pub whole_is : whole ≡ later ++ earlier

-- A history without its last entry.
abbrev pub before_last : List Entry → List Entry
before_last [] = []
before_last (e ∷ h) = h

-- The updates of the lock-free form: pushes, pops and writes, of elements of 16 bits.
abbrev pub IsShortEdit : Edit → Type 0
IsShortEdit (Push x) = IsShort x
IsShortEdit Pop = Unit {0}
IsShortEdit (Write i x) = IsShort x
IsShortEdit _ = ⊥

-- An entry that may follow a history: its actor is one of those that there are, and nothing refuses its update.
pub record MayFollow (t : Terms) (h : List Entry) (e : Entry) : Type 0 where
  pub actor : e.actor < t.seats
  pub short : IsShortEdit e.edit
  pub verdict : verdict_of t.limits (edits_of h) e.edit ≡ None

-- Each entry may follow those before it.
abbrev pub IsLegalHistory : Terms → List Entry → Type 0
IsLegalHistory t [] = Unit {0}
IsLegalHistory t (e ∷ h) = IsLegalHistory t h × MayFollow t h e

-- The index at which an entry writes, or 4095 for none. An update of the lock-free form has at most one.
unfoldable pub index_written_by : List Entry → Entry → ℕ
index_written_by h e = slice_index_or (indices_written (elements_of h) e.edit) 0 4095

-- The descriptor that shows a history: its length, the size, and what its last entry wrote.
unfoldable pub descriptor_of : List Entry → ℕ
descriptor_of [] = descriptor 0 0 4095 0
descriptor_of (e ∷ h) = descriptor (length h + 1) (length (elements_of (e ∷ h))) (index_written_by h e) (bits_written e.edit)

-- The cell that shows what a history last wrote at an index, or 0 if nothing.
unfoldable pub cell_of : ℕ → List Entry → ℕ
cell_of i [] = 0
cell_of i (e ∷ h) = if nat_eq (index_written_by h e) i then cell_word (length h + 1) (bits_written e.edit) else cell_of i h
