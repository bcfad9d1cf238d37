-- What each step of a call on a board guarantees about a seat, before and after. Only private functions use these definitions.
use Rattle.std.specs.Prelude.{◌≡◌, ℕ, ◌<◌, Bool, true, List, ◌∷◌, length, ℤ, Result, IfOk, IfErr, MatchBool, ◌⊎◌, pos, ◌-◌, Ok, Err}
use Rattle.lv_machine.specs.declared.entries.Entry.{Entry}
use Rattle.lv_machine.specs.declared.moves.Move.TheVariants.{Exchange, HelpCell, HelpMark, Install, Look, Read}
use Rattle.lv_machine.specs.History.{cell_of, IsLegalHistory, elements_of}
use Rattle.lv_machine.specs.Words.{signed, value_of}
use Rattle.lv_machine.specs.Shows.{mark_of, block}
use Rattle.lv_machine.specs.Terms.{AreTerms, Folding, Terms}
use Rattle.lv_geometry.specs.declared.refusals.Refusal.{Refusal}
use Rattle.lv_geometry.specs.declared.refusals.Refusal.TheVariants.{Contended}
use Rattle.lv_edits.specs.declared.edit.Edit.{Edit}
use Rattle.lv_board.specs.declared.actors.Actor.{Actor}
use Rattle.lv_board.specs.declared.actors.InstalledPart.{InstalledPart}
use Rattle.lv_board.specs.declared.seats.Seat.{Seat}
use Rattle.lv_board.specs.Plays.{IsAccepted, IsContended, IsRead, SeesAll}
use Rattle.lv_board.specs.Tells.{IsQuiet, IsOvertaken, HasMoved, Stays, actor_of}
use Rattle.lv_board.specs.Rule.{terms_of}
use Rattle.lv_board.specs.Stands.{IsReady}
use Rattle.std.specs.List.{slice_index_or}
use Rattle.lv_edits.specs.declared.receipt.Receipt.{Receipt}
use Rattle.lv_board.specs.Calls.{HasLooked}
use Rattle.lv_board.specs.Moved.{HasMovedBy, help_of, installs_of}

-- A compare-and-swap found another descriptor, which the seat sees now. A try that comes next needs no look.
abbrev pub HasFound : Result Receipt Refusal → Type 0
HasFound (Ok receipt) = ⊥
HasFound (Err refusal) = (number : ℕ) × (refusal ≡ Contended number)

module _ {B : Type 0} where
  -- The further move installs a word as a part of a block.
  abbrev pub HasMovedPart : ℕ → ℕ → ℕ → Seat B → Seat B → Type 0
  HasMovedPart b part word = HasMoved (λ a. Install a b part word)

  -- The history entry of a seat's update.
  abbrev pub entry_of : Seat B → Edit → Entry
  entry_of s edit = record { actor = (actor_of s).number; edit = edit }

  -- The cell, or the mark, of a seat's pending write was completed.
  pub record IsCellHelped (s t : Seat B) : Type 0 where
    pub stays : Stays s t
    pub look : t.look ≡ s.look
    pub actor : actor_of t ≡ record (actor_of s) { helped = true }
    pub moves : HasMoved HelpCell s t

  pub record IsMarkHelped (s t : Seat B) : Type 0 where
    pub stays : Stays s t
    pub look : t.look ≡ s.look
    pub actor : actor_of t ≡ record (actor_of s) { marked = true }
    pub moves : HasMoved HelpMark s t

  -- The parts that a seat installed are now these, and nothing else of it has changed.
  pub record HasInstalled (parts : List InstalledPart) (s t : Seat B) : Type 0 where
    pub stays : Stays s t
    pub look : t.look ≡ s.look
    pub actor : actor_of t ≡ record (actor_of s) { installed = parts }

  -- A word was installed at a place.
  abbrev pub IsInstalled : ℕ → ℕ → Seat B → Seat B → Type 0
  IsInstalled at word s t = HasInstalled (record { place = at; word = word } ∷ (actor_of s).installed) s t

  -- A seat's pending write was completed.
  pub record IsHelped (s t : Seat B) : Type 0 where
    pub stays : Stays s t
    pub look : t.look ≡ s.look
    pub seen : (actor_of t).seen ≡ (actor_of s).seen
    pub known : (actor_of t).known ≡ (actor_of s).known
    pub made : (actor_of t).own ≡ (actor_of s).own
    pub number : (actor_of t).number ≡ (actor_of s).number
    pub moves : HasMovedBy (help_of (actor_of s).number (actor_of s).seen) s t
    pub ready : IsReady (actor_of t) t.look

  module _ (f : B → Folding) where
    -- A seat loaded the descriptor.
    pub record IsLoaded (s t : Seat B) : Type 0 where
      pub stays : Stays s t
      pub quiet : IsQuiet (actor_of s) (actor_of t)
      pub sees : SeesAll (terms_of f s.terms) (actor_of t) t.look
      pub moves : HasMoved Look s t

    -- A seat loaded another word.
    pub record IsWordLoaded (at found : ℕ) (s t : Seat B) : Type 0 where
      pub stays : Stays s t
      pub look : t.look ≡ s.look
      pub read : IsRead (terms_of f s.terms) (actor_of s) (actor_of t) at found
      pub moves : HasMoved Read s t

    -- A compare-and-swap for an update succeeded, or another descriptor was found.
    abbrev pub IsExchanged : Edit → Bool → Seat B → Seat B → Type 0
    IsExchanged edit done s t =
        Stays s t
        × MatchBool done
        (IsAccepted (terms_of f s.terms) (actor_of s) (actor_of t) record { actor = (actor_of s).number; edit = edit })
        (IsContended (terms_of f s.terms) (actor_of s) (actor_of t) t.look)
        × HasMoved (λ a. Exchange a edit) s t

  -- The result of loading a cell: the bits that were last written there in the history that the seat saw, or the later update that it found.
  pub record IsCellTaken (t : Terms) (i : ℕ) (result : Result ℤ Refusal) (s u : Seat B) : Type 0 where
    pub stays : Stays s u
    pub look : u.look ≡ s.look
    pub quiet : IsQuiet (actor_of s) (actor_of u)
    pub rest : actor_of u ≡ record (actor_of s) { known = (actor_of u).known }
    pub terms : AreTerms t
    pub legal : IsLegalHistory t (actor_of s).seen
    pub moves : HasMoved Read s u
    pub taken : IfOk result (λ x. x ≡ signed (value_of (cell_of i (actor_of s).seen)))
    pub overtaken : IfErr result (λ refusal. IsOvertaken (actor_of u) refusal)

  -- The result of loading a mark: the last update that touched the block in the history that the seat saw, or the later update that it found.
  pub record IsMarkTaken (t : Terms) (b : ℕ) (result : Result ℕ Refusal) (s u : Seat B) : Type 0 where
    pub stays : Stays s u
    pub look : u.look ≡ s.look
    pub quiet : IsQuiet (actor_of s) (actor_of u)
    pub rest : actor_of u ≡ record (actor_of s) { known = (actor_of u).known }
    pub terms : AreTerms t
    pub legal : IsLegalHistory t (actor_of s).seen
    pub moves : HasMoved Read s u
    pub taken : IfOk result (λ mark. mark ≡ mark_of b (actor_of s).seen)
    pub overtaken : IfErr result (λ refusal. IsOvertaken (actor_of u) refusal)

-- The result of a pop or a write that nothing refuses at its look: its number and the element at its index, or why it isn't made.
abbrev pub TakeAnswers : Terms → Actor → Actor → Edit → ℕ → Result (ℕ × ℤ) Refusal → Type 0
TakeAnswers t x y edit i (Ok taken) =
    (m : Actor) × IsQuiet x m × (m.seen ≡ x.seen) × IsAccepted t m y record { actor = m.number; edit = edit }
    × (taken.0 ≡ length y.seen)
    × (taken.1 ≡ slice_index_or (elements_of x.seen) i (pos 0))
TakeAnswers t x y edit i (Err refusal) =
    (IsQuiet x y × (y.seen ≡ x.seen) × IsOvertaken y refusal)
    ⊎ ((m : Actor) × IsQuiet x m × (m.seen ≡ x.seen) × HasLooked t m y × (length x.seen < length y.seen) × (y.known ≡ y.seen) × (refusal ≡ Contended (length y.seen)))
