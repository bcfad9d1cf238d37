-- What each step of a seat tells it, and which move it is.
use Rattle.std.specs.Prelude.{◌≡◌, ℕ, ◌-◌, ◌<◌, true, [], ◌∷◌, length, MatchBool, nat_eq}
use Rattle.atomic_table.specs.Table.{Me, Step}
use Rattle.lv_geometry.specs.Cells.{capacity_of}
use Rattle.lv_machine.specs.declared.entries.Entry.{Entry}
use Rattle.lv_machine.specs.declared.moves.Move.{Move}
use Rattle.lv_machine.specs.declared.moves.Move.TheVariants.{Exchange, HelpCell, HelpMark, Install, Look, Read}
use Rattle.lv_machine.specs.History.{descriptor_of, Ends, IsLegalHistory, own}
use Rattle.lv_machine.specs.Layout.{block_at, cell_place, mark_place, part_place, row_at}
use Rattle.lv_machine.specs.Shows.{FitsPart, IsCellRead, IsMarkRead}
use Rattle.lv_machine.specs.Terms.{AreTerms, blocks_of, Folding, Terms}
use Rattle.lv_machine.specs.Words.{edit_between, HasPending}
use Rattle.lv_board.specs.declared.actors.Actor.{Actor}
use Rattle.lv_board.specs.declared.actors.Basis.{Basis}
use Rattle.lv_board.specs.declared.actors.View.{View}
use Rattle.lv_board.specs.Rule.{terms_of}
pub use Rattle.lv_board.specs.Tells.{IsQuiet}

-- An actor sees all that it knows, which is a legal history, and the descriptor that was found is that of this history.
pub record SeesAll (t : Terms) (y : Actor) (found : ℕ) : Type 0 where
  pub terms : AreTerms t
  pub all : y.seen ≡ y.known
  pub found_is : found ≡ descriptor_of y.seen
  pub legal : IsLegalHistory t y.seen
  pub made : own y.number y.known ≡ y.own

-- What a load of the word at a place tells.
pub record IsRead (t : Terms) (x y : Actor) (at found : ℕ) : Type 0 where
  pub terms : AreTerms t
  pub quiet : IsQuiet x y
  pub rest : y ≡ record x { known = y.known }
  pub seen : Ends x.seen y.known
  pub legal : IsLegalHistory t y.known
  pub cell : (i : ℕ) → i < capacity_of t.limits.buckets → at ≡ cell_place i → (HasPending (descriptor_of x.seen) → x.helped ≡ true) → IsCellRead i x.seen y.known found
  pub mark : (b : ℕ) → b < blocks_of t.limits → at ≡ mark_place b → (HasPending (descriptor_of x.seen) → x.marked ≡ true) → IsMarkRead b x.seen y.known found
  pub part : (b p : ℕ) → b < blocks_of t.limits → p < t.folding.parts → at ≡ part_place b p → FitsPart t.folding y.known b p found

-- An update was accepted. It comes after all that the actor knew, which is what it had seen.
pub record IsAccepted (t : Terms) (x y : Actor) (entry : Entry) : Type 0 where
  pub terms : AreTerms t
  pub number : y.number ≡ x.number
  pub current : x.known ≡ x.seen
  pub seen : y.seen ≡ entry ∷ x.seen
  pub known : y.known ≡ entry ∷ x.seen
  pub made : y.own ≡ entry ∷ x.own
  pub legal : IsLegalHistory t (entry ∷ x.seen)

-- Another descriptor was found, of a longer history, which the actor sees now.
pub record IsContended (t : Terms) (x y : Actor) (found : ℕ) : Type 0 where
  pub number : x.number < t.seats
  pub seen : Ends x.seen y.seen
  pub quiet : IsQuiet x y
  pub sees : SeesAll t y found
  pub later : length x.seen < length y.seen

module _ {S B : Type 0} where
  -- A seat made a move with its number. Its view has changed only by that and by its actor.
  abbrev pub Makes : Move → Actor → Me S (View B) → Me S (View B) → Type 0
  Makes move actor me after = (after.1 ≡ me.1) × (after.0 ≡ record (me.0) { actor = actor; moves = move ∷ me.0.moves })

  abbrev pub HelpsCell : Step S → Me S (View B) → ℕ → Me S (View B) → Type 0
  HelpsCell step me found after = Makes (HelpCell me.0.actor.number) (record (me.0.actor) { helped = true }) me after

  abbrev pub HelpsMark : Step S → Me S (View B) → ℕ → Me S (View B) → Type 0
  HelpsMark step me found after = Makes (HelpMark me.0.actor.number) (record (me.0.actor) { marked = true }) me after

  abbrev pub Installs : Step S → Me S (View B) → ℕ → Me S (View B) → Type 0
  Installs step me found after =
      Makes (Install me.0.actor.number (block_at step.word) (row_at step.word - 9) step.first)
      (record (me.0.actor) { installed = record { place = step.word; word = step.first } ∷ me.0.actor.installed }) me after

  module _ (f : B → Folding) where
    abbrev pub Looks : Step S → Me S (View B) → ℕ → Me S (View B) → Type 0
    Looks step me found after = Makes (Look me.0.actor.number) after.0.actor me after × IsQuiet me.0.actor after.0.actor × ((z : Basis B) → me.0.bases ≡ z ∷ [] → SeesAll (terms_of f z) after.0.actor found) × Ends me.0.actor.told after.0.actor.known

    abbrev pub Reads : Step S → Me S (View B) → ℕ → Me S (View B) → Type 0
    Reads step me found after = Makes (Read me.0.actor.number) after.0.actor me after × ((z : Basis B) → me.0.bases ≡ z ∷ [] → IsRead (terms_of f z) me.0.actor after.0.actor step.word found)

    abbrev pub Exchanges : Step S → Me S (View B) → ℕ → Me S (View B) → Type 0
    Exchanges step me found after =
        Makes (Exchange me.0.actor.number (edit_between step.first step.second)) after.0.actor me after
        × ((z : Basis B) → me.0.bases ≡ z ∷ []
        → MatchBool (nat_eq found step.first)
        (IsAccepted (terms_of f z) me.0.actor after.0.actor record { actor = me.0.actor.number; edit = edit_between step.first step.second })
        (IsContended (terms_of f z) me.0.actor after.0.actor found))
