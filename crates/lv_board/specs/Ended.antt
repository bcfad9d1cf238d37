-- What the last words of a board show, and the final state of a board given the seats that were handed in.
use Rattle.std.specs.Prelude.{◌≡◌, ◌≤◌, ℕ, ℤ, List, length, nat_eq, slice_index, All, if◌then◌else◌}
use Rattle.lv_machine.specs.declared.entries.Entry.{Entry}
use Rattle.lv_machine.specs.History.{elements_of, IsLegalHistory, own}
use Rattle.lv_machine.specs.Layout.{cell_place}
use Rattle.lv_machine.specs.Shows.{ShowsHistory}
use Rattle.lv_machine.specs.Terms.{AreTerms, Terms}
use Rattle.lv_machine.specs.Words.{index_of, signed, value_of}
use Rattle.lv_board.specs.declared.actors.Actor.{Actor}
use Rattle.lv_board.specs.declared.remains.Closed.{Closed}
use Rattle.lv_board.specs.declared.seats.Seat.{Seat}
use Rattle.lv_board.specs.Tells.{actor_of}
use Rattle.lv_board.specs.Closing.{IsKept}

-- The element at an index, as words show it. If the last update wrote there, the descriptor has it, and otherwise the cell.
abbrev pub shown_at : List ℕ → ℕ → ℤ
shown_at words i =
    if nat_eq (index_of (slice_index words 0)) i then signed (value_of (slice_index words 0))
    else signed (value_of (slice_index words (cell_place i)))

-- The last words show a history. Each actor knows an earlier state of it, with all entries of its own.
pub record IsSettled (t : Terms) (actors : List Actor) (words : List ℕ) : Type 0 where
  pub terms : AreTerms t
  pub history : List Entry
  pub looks : ℕ → ℕ
  pub shown : ShowsHistory t words history looks
  pub kept : All (IsKept history) actors

module _ {B : Type 0} where
  -- The final state of a board, given the seats that were handed in, if any. Each of them knows an earlier state of the history, with all entries
  -- of its own.
  pub record IsEnded (t : Terms) (seats : List (Seat B)) (closed : Closed) : Type 0 where
    pub history : List Entry
    pub legal : IsLegalHistory t history
    pub edit : closed.edit ≡ length history
    pub elements : closed.elements ≡ elements_of history
    pub few : length closed.elements ≤ 4088
    pub known : All (λ s. IsKept history (actor_of s)) seats
