-- The rule of a book in which histories grow, and what the steps on it guarantee. An entry is added with a permit, which is spent by that, and
-- the entry names the permit that takes its place. So only the holder of its permit can extend a history, whatever others add to the book.
use Rattle.std.specs.Prelude.{ℕ, ◌≡◌, ◌≢◌, true, List, [], ◌∷◌, ◌++◌, All, nat_eq, if◌then◌else◌}
use mathlib.Core.List.{IsPrefix}
use Rattle.logbook.specs.Pages.{Book, Cell, Named, Step, View, cell, may_make}
use Rattle.lv_edits.specs.declared.edit.Edit.{Edit}
use Rattle.lv_history.specs.declared.entries.Entry.{Entry}

-- Which history it is: its book, and the permit with which its first update is added.
pub record Beginning : Type 0 where
  pub book : Book
  pub permit : ℕ

-- The updates of the history that begins with a permit, in order.
abbrev pub edits_by : ℕ → List Entry → List Edit
edits_by permit [] = []
edits_by permit (entry ∷ log) = if nat_eq entry.by permit then entry.edit ∷ edits_by entry.next log else edits_by permit log

-- The permit with which the next update is added to it.
abbrev pub permit_after : ℕ → List Entry → ℕ
permit_after permit [] = permit
permit_after permit (entry ∷ log) = if nat_eq entry.by permit then permit_after entry.next log else permit_after permit log

-- A permit is spent if its word is at home.
abbrev pub IsSpent : List Cell → ℕ → Type 0
IsSpent words permit = (cell words permit).1 ≡ true

-- Nothing was added with this permit.
abbrev pub IsUnspent : ℕ → List Entry → Type 0
IsUnspent permit log = All (λ entry. entry.by ≢ permit) log

-- The first word is at home, so that steps are made on it. Every entry was added with a permit that is spent.
pub record IsKept (words : List Cell) (log : List Entry) : Type 0 where
  pub first : IsSpent words 0
  pub spent : All (λ entry. IsSpent words entry.by) log

-- The first word of a book.
abbrev pub head_of : Book → Named
head_of b = record { tracked = true; key = 0; book = b }

-- A new permit was given, with which nothing was added yet.
pub record Grants (s : Step Entry) (v : View Entry ℕ) (found : ℕ) (w : View Entry ℕ) : Type 0 where
  pub right : w.1.0.right ≡ may_make
  pub unspent : IsUnspent w.1.0.key w.0

-- The book was seen as it is, by the holder of a permit that isn't spent.
pub record Shows (s : Step Entry) (v : View Entry ℕ) (found : ℕ) (w : View Entry ℕ) : Type 0 where
  pub pen : w.1.0 ≡ v.1.0
  pub unspent : IsUnspent v.1.0.key w.0

-- An entry was added with a permit that was not spent before.
pub record Adds (s : Step Entry) (v : View Entry ℕ) (found : ℕ) (w : View Entry ℕ) : Type 0 where
  pub before : List Entry
  pub seen : IsPrefix v.0 before
  pub unspent : IsUnspent v.1.0.key before
  pub added : w.0 ≡ before ++ record { by = v.1.0.key; next = s.ask.next; edit = s.ask.edit } ∷ []
