-- The result of closing a board.
use Rattle.std.specs.Prelude.{◌≡◌, ℕ, List, length, map, All}
use Rattle.std.specs.List.{range_with_len, sum_by}
use Rattle.std.specs.List.Sorted.{IsPermutation}
use Rattle.atomic_table.specs.Seated.{TableId}
use Rattle.lv_machine.specs.declared.entries.Entry.{Entry}
use Rattle.lv_machine.specs.History.{elements_of, Ends, IsLegalHistory, own}
use Rattle.lv_machine.specs.Terms.{Terms}
use Rattle.lv_board.specs.declared.actors.Actor.{Actor}
use Rattle.lv_board.specs.declared.actors.Basis.{Basis}
use Rattle.lv_board.specs.declared.remains.Closed.{Closed}
use Rattle.lv_board.specs.declared.seats.Seat.{Seat}
use Rattle.lv_board.specs.Tells.{actor_of, IsAt, Stays}

-- An actor knows an earlier state of a history, with all entries of its own.
pub record IsKept (h : List Entry) (x : Actor) : Type 0 where
  pub known : Ends x.known h
  pub own_is : own x.number h ≡ own x.number x.known

module _ {B : Type 0} where
  -- Each seat is one of the board of this table and basis.
  abbrev pub AreAt : TableId → Basis B → List (Seat B) → Type 0
  AreAt table z seats = All (IsAt table z) seats

  -- All seats of a board with this number of seats: each number occurs once, in any order.
  abbrev pub AreAll : ℕ → List (Seat B) → Type 0
  AreAll count seats = IsPermutation (range_with_len 0 count) (map (λ s. (actor_of s).number) seats)

  -- A seat stays at its board and keeps its number.
  pub record IsStill (s u : Seat B) : Type 0 where
    pub stays : Stays s u
    pub number : (actor_of u).number ≡ (actor_of s).number

  -- How many entries of its own a seat knows.
  abbrev pub made_by : Seat B → ℕ
  made_by s = length (own (actor_of s).number (actor_of s).known)

  -- The closed board had one legal history. The number is that of its last update, and the elements are those after it. Each seat knows an
  -- earlier state of the history, with all entries of its own, and each entry of the history is one of a seat's own.
  pub record IsClosed (t : Terms) (seats : List (Seat B)) (closed : Closed) : Type 0 where
    pub history : List Entry
    pub legal : IsLegalHistory t history
    pub edit : closed.edit ≡ length history
    pub elements : closed.elements ≡ elements_of history
    pub known : All (λ s. IsKept history (actor_of s)) seats
    pub total : closed.edit ≡ sum_by made_by seats
