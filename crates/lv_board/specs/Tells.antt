-- What the calls of a board guarantee about a seat, before and after.
use Rattle.std.specs.Prelude.{◌≡◌, ℕ, ◌<◌, ◌≤◌, List, ◌∷◌, length, ◌-◌}
use Rattle.lv_machine.specs.declared.moves.Move.{Move}
use Rattle.lv_machine.specs.History.{Ends, own}
use Rattle.lv_geometry.specs.declared.refusals.Refusal.{Refusal}
use Rattle.lv_geometry.specs.declared.refusals.Refusal.TheVariants.{Overtaken}
use Rattle.lv_board.specs.declared.actors.Actor.{Actor}
use Rattle.lv_board.specs.declared.actors.Basis.{Basis}
use Rattle.atomic_table.specs.Seated.{TableId}
use Rattle.lv_board.specs.declared.seats.Seat.{Seat}

-- An actor has made no update. What it knows may have grown by the updates of others.
pub record IsQuiet (x y : Actor) : Type 0 where
  pub number : y.number ≡ x.number
  pub known : Ends x.known y.known
  pub own_is : own x.number y.known ≡ own x.number x.known
  pub made : y.own ≡ x.own

-- A load found a word of a later update than the look. The refusal has a number above that of the look, and the seat knows the history up to it.
pub record IsOvertaken (y : Actor) (refusal : Refusal) : Type 0 where
  pub version : ℕ
  pub refusal_is : refusal ≡ Overtaken version
  pub later : length y.seen < version
  pub shown : version ≤ length y.known

module _ {B : Type 0} where
  -- What a seat knows.
  abbrev pub actor_of : Seat B → Actor
  actor_of s = s.token.me.0.actor

  -- The steps that a seat made on the words, with the last first.
  abbrev pub moves_of : Seat B → List Move
  moves_of s = s.token.me.0.moves

  -- A seat made one more move, with its number.
  abbrev pub HasMoved : (ℕ → Move) → Seat B → Seat B → Type 0
  HasMoved move s t = moves_of t ≡ move (actor_of s).number ∷ moves_of s

  -- A seat is one of the board of this table and basis.
  pub record IsAt (table : TableId) (z : Basis B) (s : Seat B) : Type 0 where
    pub at : s.token.table_id ≡ table
    pub terms : s.terms ≡ z

  -- A seat stays at its board.
  pub record Stays (s t : Seat B) : Type 0 where
    pub table : t.token.table_id ≡ s.token.table_id
    pub terms : t.terms ≡ s.terms

  -- A seat is unchanged.
  pub record IsSame (s t : Seat B) : Type 0 where
    pub stays : Stays s t
    pub look : t.look ≡ s.look
    pub actor : actor_of t ≡ actor_of s
    pub moves : moves_of t ≡ moves_of s
