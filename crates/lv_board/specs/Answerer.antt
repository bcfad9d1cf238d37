-- The answerer of the lines of a board's session: when it may be asked, and what it does.
use Rattle.std.specs.Prelude.{◌≡◌, ℕ, List, ◌++◌, length, drop, Vec}
use Rattle.std.specs.declared.alloc.Global.{Global}
use mathlib.Core.Equiv.{IsContr}
use denote.Ref.{MutBor}
use Rattle.lv_bodies.specs.declared.kinds.Kind.{Kind}
use Rattle.lv_bodies.specs.declared.kinds.Shown.{Shown}
use Rattle.lv_bodies.specs.Body.{Operations}
use Rattle.lv_machine.specs.Terms.{Folding}
use Rattle.lv_lines.specs.Output.{HasRoom, KeepsRoom}
use Rattle.lv_lines.specs.declared.replies.TheConstants.{LINE}
use Rattle.lv_machine.specs.declared.events.Call.{Call}
use Rattle.lv_lines.specs.declared.lines.Line.{Line}
use Rattle.lv_board.specs.declared.actors.Basis.{Basis}
use Rattle.lv_board.specs.declared.seats.Seat.{Seat}
use Rattle.lv_board.specs.Rule.{terms_of}
use Rattle.lv_board.specs.Session.{BoardAnswer}
use Rattle.lv_board.specs.Tells.{actor_of, Stays}

-- The text that was put after what a buffer had.
abbrev pub text_after : {Z : Type 0} → Vec ℕ Z → Vec ℕ Z → List ℕ
text_after held left = drop (length held.items) left.items

-- At the board of a basis a seat answered a line, and the reply was put after what the buffer had.
pub record IsAnswered {B V : Type 0} (f : B → Folding) (o : B → Operations V) (kind : Kind) (shown : B → V → Shown) (z : Basis B) (seat : Seat B) (n : ℕ) (line : Line Call) (held : Vec ℕ Global) (after : Seat B) (left : Vec ℕ Global) : Type 0 where
  pub stays : Stays seat after
  pub text : List ℕ
  pub answer : BoardAnswer (terms_of f z) (o z.body) kind (shown z.body) (actor_of seat) n line text (actor_of after)
  pub put : left.items ≡ held.items ++ text
  pub room : KeepsRoom held left

-- S is a type of seats: `seat_of` gives the seat of each value.
module _ {A B S : Type 0} (seat_of : S → Seat B) where
  -- An answerer may be asked by each seat at the board of the first one, if the buffer has room for a reply.
  abbrev pub IsReady : (A → S → ℕ → Line Call → Vec ℕ Global → Type 0) → A → Seat B → Type 0
  IsReady may answerer first = (s : S) (n : ℕ) (line : Line Call) (held : Vec ℕ Global) → Stays first (seat_of s) → HasRoom held LINE → ∥ may answerer s n line held ∥₁

  -- `does` is what an answerer does.
  module _ (does : A → S → ℕ → Line Call → Vec ℕ Global → S → Vec ℕ Global → Type 0) (answerer : A) where
    -- Whatever it does is an answer at the board of a basis.
    abbrev pub IsRight : {V : Type 0} → (B → Folding) → (B → Operations V) → Kind → (B → V → Shown) → Basis B → Type 0
    IsRight f o kind shown z = (s : S) (n : ℕ) (line : Line Call) (held : Vec ℕ Global) (u : S) (left : Vec ℕ Global)
        → does answerer s n line held u left → IsAnswered f o kind shown z (seat_of s) n line held (seat_of u) left

    -- It leaves each seat at its board.
    abbrev pub LeavesSeats : Type 0
    LeavesSeats = (s : S) (n : ℕ) (line : Line Call) (held : Vec ℕ Global) (u : S) (left : Vec ℕ Global) → does answerer s n line held u left → Stays (seat_of s) (seat_of u)

    -- It removes nothing from the buffer, and keeps its room.
    abbrev pub LeavesHeld : Type 0
    LeavesHeld = (s : S) (n : ℕ) (line : Line Call) (held : Vec ℕ Global) (u : S) (left : Vec ℕ Global)
        → does answerer s n line held u left → (left.items ≡ held.items ++ text_after held left) × KeepsRoom held left

-- ---- a closure as an answerer

module _ {S L H : Type 0} where
  -- A call may be made at a seat and a buffer, whatever the references to them. This has exactly one proof, so that a struct can contain it.
  abbrev pub MayCall : (MutBor S → ℕ → L → MutBor H → Type 0) → S → ℕ → L → H → Type 0
  MayCall pre seat n line held = (s : MutBor S) (h : MutBor H) → s.now ≡ seat → h.now ≡ held → IsContr (pre s n line h)

  -- A call at a seat and a buffer left them in this state, through some references to them.
  pub record HasCalled {R : Type 0} (post : MutBor S → ℕ → L → MutBor H → R → MutBor S → MutBor H → Type 0) (seat : S) (n : ℕ) (line : L) (held : H) (after : S) (left : H) : Type 0 where
    pub s : MutBor S
    pub h : MutBor H
    pub result : R
    pub s' : MutBor S
    pub h' : MutBor H
    pub called : post s n line h result s' h'
    pub seat_is : s.now ≡ seat
    pub held_is : h.now ≡ held
    pub after_is : s'.now ≡ after
    pub left_is : h'.now ≡ left
