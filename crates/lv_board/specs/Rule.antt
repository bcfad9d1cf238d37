-- A board's terms, and what is true of a seat's actor in a state.
use Rattle.std.specs.Prelude.{◌≡◌, ℕ, ◌/◌, ◌<◌, ◌≤◌, true, false, List, [], slice_index, All}
use mathlib.Core.Option.{some}
use Rattle.lv_bodies.specs.Body.{fold_of, Operations}
use Rattle.lv_machine.specs.History.{descriptor_of, Ends, own}
use Rattle.lv_machine.specs.Layout.{cell_place, mark_place}
use Rattle.lv_machine.specs.Moves.{Config}
use Rattle.lv_machine.specs.Terms.{Folding, Terms}
use Rattle.lv_machine.specs.Words.{cell_version, edit_of, HasPending, index_of}
use Rattle.lv_board.specs.declared.actors.Actor.{Actor}
use Rattle.lv_board.specs.declared.actors.Basis.{Basis}
use Rattle.lv_board.specs.declared.actors.InstalledPart.{InstalledPart}
use Rattle.lv_geometry.specs.Bounds.{Bounds}

-- The limits of a basis.
abbrev pub limits_of : {B : Type 0} → Basis B → Bounds
limits_of z = record { buckets = z.buckets; edits = z.edits }

-- How the folds of a monoid instance's blocks are stored: each part of the fold's aggregate.
abbrev pub folds : {B S : Type 0} → ℕ → (S → List ℕ) → (B → Operations S) → B → Folding
folds count parts operations b = record { parts = count; part = λ p xs. slice_index (parts (fold_of (operations b) xs)) p }

-- An actor that has seen nothing.
abbrev pub newcomer : ℕ → Actor
newcomer number = record { number = number; seen = []; known = []; own = []; told = []; helped = false; marked = false; installed = [] }

-- A part that was installed is among the words, or a later one displaced it.
pub record IsThere (words : List ℕ) (p : InstalledPart) : Type 0 where
  pub some : 1 ≤ p.place
  pub word : p.word ≤ slice_index words p.place

-- What a seat's actor knows is true of a state. `owner` says which token has which number.
pub record ActorFits (seats : ℕ) (c : Config) (owner : ℕ → ℕ) (id : ℕ) (x : Actor) : Type 0 where
  pub number : x.number < seats
  pub owner_is : owner x.number ≡ id
  pub look : c.looks x.number ≡ descriptor_of x.seen
  pub seen : Ends x.seen x.known
  pub known : Ends x.known c.history
  pub own_is : own x.number c.history ≡ own x.number x.known
  pub made : own x.number c.history ≡ x.own
  pub told : Ends x.told c.history
  pub helped : x.helped ≡ true → HasPending (descriptor_of x.seen) → edit_of (descriptor_of x.seen) ≤ cell_version (slice_index c.words (cell_place (index_of (descriptor_of x.seen))))
  pub marked : x.marked ≡ true → HasPending (descriptor_of x.seen) → edit_of (descriptor_of x.seen) ≤ slice_index c.words (mark_place (index_of (descriptor_of x.seen) / 8))
  pub installed : All (IsThere c.words) x.installed

module _ {B : Type 0} (f : B → Folding) where
  -- The terms of the lock-free form with which a board is made.
  abbrev pub terms_of : Basis B → Terms
  terms_of z = record { limits = record { buckets = z.buckets; edits = z.edits }; seats = z.seats; folding = f z.body }
