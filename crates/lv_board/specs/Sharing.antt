-- A shared board, its seats, and how their calls end.
use Rattle.std.specs.Prelude.{◌≡◌, ◌≢◌, ℕ, ℤ, ◌+◌, ◌<◌, ◌≤◌, max, List, [], ◌∷◌, ◌++◌, length, map, All}
use Rattle.std.specs.List.{range_with_len, sum_by}
use Rattle.std.specs.Arc.{arc_value}
use Rattle.atomic_table.specs.Seated.{TableId}
use Rattle.lv_geometry.specs.Bounds.{Bounds}
use Rattle.lv_bodies.specs.declared.kinds.Kind.{Kind}
use Rattle.lv_bodies.specs.declared.kinds.Shown.{Shown}
use Rattle.lv_machine.specs.declared.events.Call.{Call}
use Rattle.lv_machine.specs.declared.outcomes.Said.{Said}
use Rattle.lv_machine.specs.declared.entries.Entry.{Entry}
use Rattle.lv_machine.specs.History.{elements_of, IsLegalHistory, own}
use Rattle.lv_machine.specs.Terms.{Folding, Terms}
use Rattle.lv_board.specs.declared.actors.Actor.{Actor}
use Rattle.lv_board.specs.declared.remains.Closed.{Closed}
use Rattle.lv_board.specs.declared.opened.Opened.{Opened}
use Rattle.lv_board.specs.declared.sharing.Unclosed.{Unclosed}
use Rattle.lv_board.specs.declared.sharing.Unclosed.TheVariants as unclosed
use Rattle.lv_board.specs.declared.sharing.Unseated.{Unseated}
use Rattle.lv_board.specs.declared.sharing.Unseated.TheVariants.{NoMemory, NoSeat}
use Rattle.lv_board.specs.declared.seats_with_board.SeatWithBoard.{SeatWithBoard}
use Rattle.lv_board.specs.Closing.{IsKept}
use Rattle.lv_board.specs.Opening.{MayOpen}
use Rattle.lv_board.specs.Retrying.{AnswersWithin}
use Rattle.lv_board.specs.Rule.{newcomer, terms_of}
use Rattle.lv_board.specs.Session.{CallEnds}
use Rattle.lv_board.specs.Tells.{actor_of}

-- A seat and what it knows: its board with stamp and terms, the board's kind and its values of lists, and the seat's actor.
pub record Sat : Type 0 where
  pub board : TableId
  pub stamp : ℕ
  pub terms : Terms
  pub kind : Kind
  pub plain : List ℤ → Shown
  pub knows : Actor

-- A shared board: the same facts of the board, and what each seat knows that isn't taken. The first of these seats is the next to be taken.
pub record Shared : Type 0 where
  pub board : TableId
  pub stamp : ℕ
  pub terms : Terms
  pub kind : Kind
  pub plain : List ℤ → Shown
  pub left : List Actor

-- ---- a shared board

-- A board was opened with these limits, this number of seats, this stamp, this kind and these values. It has no updates, and none of its seats is
-- taken.
pub record IsNewlyShared (limits : Bounds) (seats stamp : ℕ) (folding : Folding) (kind : Kind) (plain : List ℤ → Shown) (new : Shared) : Type 0 where
  pub allowed : MayOpen limits seats
  pub stamp_is : new.stamp ≡ stamp
  pub terms : new.terms ≡ record { limits = limits; seats = seats; folding = folding }
  pub kind_is : new.kind ≡ kind
  pub plain_is : new.plain ≡ plain
  pub left : new.left ≡ map newcomer (range_with_len 0 seats)

-- The first seat was taken, and the others are left.
pub record Sits (old : Shared) (s : Sat) (new : Shared) : Type 0 where
  pub seat : s ≡ record { board = old.board; stamp = old.stamp; terms = old.terms; kind = old.kind; plain = old.plain; knows = s.knows }
  pub first : old.left ≡ s.knows ∷ new.left
  pub same : new ≡ record old { left = new.left }

-- No seat was taken. There was none, or there was one but no memory.
abbrev pub IsUnseated : Shared → Unseated → Type 0
IsUnseated old NoSeat = old.left ≡ []
IsUnseated old NoMemory = 0 < length old.left

-- A seat of the board was given back, with all that it knows. It comes after those that were left.
pub record IsBack (old : Shared) (s : Sat) (new : Shared) : Type 0 where
  pub stamp : s.stamp ≡ old.stamp
  pub board : s.board ≡ old.board
  pub left : new.left ≡ old.left ++ s.knows ∷ []
  pub same : new ≡ record old { left = new.left }

-- Why a board stays open. Either some seat is missing. Or all seats are there, but memory ran out, or somebody has a share of the board.
abbrev pub IsUnclosed : Shared → Unclosed → Type 0
IsUnclosed old unclosed.SeatsOut = (n : ℕ) × (n < old.terms.seats) × All (λ x. x.number ≢ n) old.left
IsUnclosed old other = length old.left ≡ old.terms.seats

-- The closed board had one legal history. The number is that of its last update, and the elements are those after it. All seats of the board were
-- given back. Each knows an earlier state of the history, with all entries of its own, and each entry of the history is one of a seat's own.
pub record IsClosedShared (old : Shared) (closed : Closed) : Type 0 where
  pub history : List Entry
  pub legal : IsLegalHistory old.terms history
  pub edit : closed.edit ≡ length history
  pub elements : closed.elements ≡ elements_of history
  pub few : length closed.elements ≤ 4088
  pub all : length old.left ≡ old.terms.seats
  pub known : All (IsKept history) old.left
  pub total : closed.edit ≡ sum_by (λ x. length (own x.number x.known)) old.left

module _ {B S : Type 0} where
  -- A seat is one of the board's, and no seat that is left has its number.
  pub record IsOut (o : Opened B S) (s : SeatWithBoard B S) : Type 0 where
    pub board : arc_value s.board ≡ arc_value o.board
    pub apart : All (λ u. (actor_of u).number ≢ (actor_of s.seat).number) o.seats.items

module _ {B S : Type 0} (folding : B → Folding) (kind : Kind) (plain : B → List ℤ → Shown) where
  abbrev pub sat_of : SeatWithBoard B S → Sat
  sat_of s = record {
    board = (arc_value s.board).table.shared.table_id;
    stamp = s.stamp;
    terms = terms_of folding (arc_value s.board).terms;
    kind = kind;
    plain = plain (arc_value s.board).terms.body;
    knows = actor_of s.seat;
  }

  abbrev pub shared_of : Opened B S → Shared
  shared_of o = record {
    board = (arc_value o.board).table.shared.table_id;
    stamp = o.stamp;
    terms = terms_of folding (arc_value o.board).terms;
    kind = kind;
    plain = plain (arc_value o.board).terms.body;
    left = map actor_of o.seats.items;
  }

-- ---- how a seat's calls end

-- How a call ends with plain values, where an update is tried at most `tries` times.
abbrev pub EndsWithin : Terms → (List ℤ → Shown) → ℕ → Call → Actor → Said Shown → Actor → Type 0
EndsWithin t plain tries = CallEnds t (AnswersWithin t tries) plain

-- A seat made a call. Only what it knows has changed, it has kept its number, and this is how the call ended. An update is tried at least once,
-- and at most `tries` times.
pub record Makes (tries : ℕ) (asked : Call) (s : Sat) (end : Said Shown) (u : Sat) : Type 0 where
  pub same : u ≡ record s { knows = u.knows }
  pub number : u.knows.number ≡ s.knows.number
  pub ends : EndsWithin s.terms s.plain (max tries 1) asked s.knows end u.knows
