-- The rule of the board's table: its words are those of a reachable state, and what each seat knows is true of it.
use Rattle.std.specs.Prelude.{◌≡◌, ℕ, ◌+◌, ◌<◌, ◌≤◌, true, false, List, [], ◌∷◌, ◌++◌, All}
use mathlib.Core.Option.{some}
use lib.ListN.{get_elem?}
use Rattle.atomic_table.specs.Table.{State}
use Rattle.lv_machine.specs.History.{descriptor_of, Ends, own}
use Rattle.lv_machine.specs.declared.moves.Move.{Move}
use Rattle.lv_machine.specs.Moves.{AreAllowed, Config, made_by, mover, reached}
use Rattle.lv_machine.specs.Terms.{AreTerms, Folding}
use Rattle.lv_board.specs.declared.actors.Basis.{Basis}
use Rattle.lv_board.specs.declared.actors.View.{View}
use Rattle.lv_board.specs.Rule.{ActorFits, newcomer, terms_of}

module _ {B : Type 0} where
  -- The view that deals the seats from a number on. The first view deals all of them.
  abbrev pub dealer_from : Basis B → ℕ → View B
  dealer_from z number = record { actor = newcomer number; sits = false; deals = true; bases = z ∷ []; moves = []; more = [] }

  abbrev pub dealer : Basis B → View B
  dealer z = dealer_from z 0

  -- The dealer after it has dealt a seat, and that seat.
  abbrev pub dealt : View B → View B
  dealt v = record v { actor = newcomer (v.actor.number + 1) }

  abbrev pub fresh : View B → View B
  fresh v = record { actor = newcomer v.actor.number; sits = true; deals = false; bases = v.bases; moves = []; more = [] }

  -- A view that is spent knows nothing.
  abbrev pub spent : View B
  spent = record { actor = newcomer 0; sits = false; deals = false; bases = []; moves = []; more = [] }

  -- A note has what a seat knows, and is no seat.
  abbrev pub note : View B → View B
  note v = record { actor = record { number = 0; seen = []; known = v.actor.known; own = []; told = []; helped = false; marked = false; installed = [] }; sits = false; deals = false; bases = []; moves = []; more = [] }

  -- A seat that has read a note, and so knows what it says.
  abbrev pub informed : View B → View B → View B
  informed v w = record v { actor = record (v.actor) { told = w.actor.known } }

  -- A view with the actors of another in addition to its own.
  abbrev pub gathered : View B → View B → View B
  gathered v w = record v { more = w.actor ∷ w.more ++ v.more }

-- A view is that of one seat.
pub record IsSeat {B : Type 0} (v : View B) : Type 0 where
  pub sits : v.sits ≡ true
  pub deals : v.deals ≡ false
  pub more : v.more ≡ []

-- A seat that is not dealt yet. The dealer owns it, and it has seen and done nothing.
pub record IsUndealt (c : Config) (owner : ℕ → ℕ) (id number : ℕ) : Type 0 where
  pub owner_is : owner number ≡ id
  pub look : c.looks number ≡ descriptor_of []
  pub own_is : own number c.history ≡ []

-- What a view says of the moves that led to a state. The moves with a seat's number are those that the seat made. A seat that is not dealt yet
-- has made none.
pub record HasMade {B : Type 0} (seats : ℕ) (moves : List Move) (v : View B) : Type 0 where
  pub sits : v.sits ≡ true → made_by v.actor.number moves ≡ v.moves
  pub deals : v.deals ≡ true → (number : ℕ) → v.actor.number ≤ number → number < seats → made_by number moves ≡ []

module _ {B : Type 0} (f : B → Folding) where
  -- What a view says is true of a state.
  pub record ViewFits (z : Basis B) (c : Config) (owner : ℕ → ℕ) (id : ℕ) (v : View B) : Type 0 where
    pub known : Ends v.actor.known c.history
    pub based : v.sits ≡ true → v.bases ≡ z ∷ []
    pub sits : v.sits ≡ true → ActorFits z.seats c owner id v.actor
    pub deals : v.deals ≡ true → (number : ℕ) → v.actor.number ≤ number → number < z.seats → IsUndealt c owner id number
    pub more : All (ActorFits z.seats c owner id) v.more

  -- There are allowed moves that lead to the words. Each view is true of the state that they reach, each move has a seat's number, and each seat
  -- made the moves with its number.
  pub record TableHolds {S : Type 0} (z : Basis B) (s : State S (View B)) : Type 0 where
    pub terms : AreTerms (terms_of f z)
    pub moves : List Move
    pub allowed : AreAllowed (terms_of f z) moves
    pub words_are : s.words ≡ (reached (terms_of f z) moves).words
    pub movers : All (λ m. mover m < z.seats) moves
    pub owner : ℕ → ℕ
    pub views : (id : ℕ) (v : View B) → get_elem? s.views id ≡ some v → ViewFits z (reached (terms_of f z) moves) owner id v
    pub made : (id : ℕ) (v : View B) → get_elem? s.views id ≡ some v → HasMade z.seats moves v
