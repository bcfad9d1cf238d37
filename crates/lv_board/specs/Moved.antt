-- Which atomic steps each call of a board makes, as lists of moves with the last first. A load of a word other than the descriptor is a move that
-- doesn't name the word.
use Rattle.std.specs.Prelude.{◌≡◌, ◌⊎◌, ℕ, zero, suc, ◌+◌, ◌*◌, ◌≤◌, Option, Some, None, Result, Ok, Err, List, [], ◌∷◌, ◌++◌, length, nat_lt, replicate, if◌then◌else◌}
use Rattle.lv_geometry.specs.declared.refusals.Refusal.{Refusal}
use Rattle.lv_geometry.specs.declared.refusals.Refusal.TheVariants.{OutOfRange, Overtaken}
use Rattle.lv_edits.specs.declared.edit.Edit.{Edit}
use Rattle.lv_edits.specs.declared.edit.Edit.TheVariants.{Pop, Write}
use Rattle.lv_edits.specs.declared.receipt.Receipt.{Receipt}
use Rattle.lv_edits.specs.Touch.{elements_under}
use Rattle.lv_edits.specs.Verdict.{verdict_of}
use Rattle.lv_machine.specs.declared.entries.Entry.{Entry}
use Rattle.lv_machine.specs.declared.moves.Move.{Move}
use Rattle.lv_machine.specs.declared.moves.Move.TheVariants.{Exchange, HelpCell, HelpMark, Install, Look, Read}
use Rattle.lv_machine.specs.declared.outcomes.Read.{Read as ReadElement}
use Rattle.lv_machine.specs.declared.outcomes.Refreshed.{Refreshed}
use Rattle.lv_machine.specs.History.{descriptor_of, edits_of, elements_of}
use Rattle.lv_machine.specs.Shows.{block, mark_of}
use Rattle.lv_machine.specs.Terms.{Terms}
use Rattle.lv_machine.specs.Words.{index_of, part_word}
use Rattle.lv_reduce.specs.declared.reductions.Answer.{Answer}
use Rattle.lv_board.specs.declared.actors.Actor.{Actor}
use Rattle.lv_board.specs.declared.seats.Seat.{Seat}
use Rattle.lv_board.specs.Calls.{HasLooked, LookedAnswers}
use Rattle.lv_board.specs.Tells.{actor_of, IsOvertaken, moves_of}

-- Actor a completes the pending write that the descriptor of a history has: first its cell, and then its block's mark. If there is none, it does
-- nothing.
abbrev pub help_of : ℕ → List Entry → List Move
help_of a k = if nat_lt (index_of (descriptor_of k)) 4088 then HelpMark a ∷ HelpCell a ∷ [] else []

-- n loads of words other than the descriptor.
abbrev pub loads_of : ℕ → ℕ → List Move
loads_of n a = replicate n (Read a)

-- Why something is refused, if it is.
abbrev pub refusal_in : {A : Type 0} → Result A Refusal → Option Refusal
refusal_in (Ok given) = None
refusal_in (Err refusal) = Some refusal

-- A pop and a write load the cell of the element that they return. A push loads none.
abbrev pub cell_load : ℕ → Edit → List Move
cell_load a Pop = Read a ∷ []
cell_load a (Write i x) = Read a ∷ []
cell_load a _ = []

-- After these moves comes the compare-and-swap for an update, unless the cell was found to have a later update.
abbrev pub exchanging : ℕ → Edit → List Move → Option Refusal → List Move
exchanging a edit ready (Some (Overtaken n)) = ready
exchanging a edit ready _ = Exchange a edit ∷ ready

-- These moves are made unless the precondition check refuses the update.
abbrev pub unless_refused : Option Refusal → List Move → List Move
unless_refused (Some refusal) moves = []
unless_refused None moves = moves

-- The moves of an update from the actor's look. If nothing refuses it there, they are those for the pending write, then the load of the cell,
-- then the compare-and-swap.
abbrev pub edit_moves : {A : Type 0} → Terms → Actor → Edit → Result A Refusal → List Move
edit_moves t x edit result =
    unless_refused (verdict_of t.limits (edits_of x.seen) edit) (exchanging x.number edit (cell_load x.number edit ++ help_of x.number x.seen) (refusal_in result))

-- The first parts of a block are installed, as a history shows the block.
abbrev pub installs_of : Terms → ℕ → ℕ → List Entry → ℕ → List Move
installs_of t a b k zero = []
installs_of t a b k (suc p) = Install a b p (part_word (mark_of b k) (t.folding.part p (elements_under (edits_of k) (block b)))) ∷ installs_of t a b k p

module _ {B : Type 0} where
  -- A seat made these further moves, with the last first.
  abbrev pub HasMovedBy : List Move → Seat B → Seat B → Type 0
  HasMovedBy more s u = moves_of u ≡ more ++ moves_of s

  -- A seat loaded the descriptor, and then made these moves.
  abbrev pub HasLookedAnd : List Move → Seat B → Seat B → Type 0
  HasLookedAnd more s u = moves_of u ≡ more ++ (Look (actor_of s).number ∷ moves_of s)

  -- A seat loaded the descriptor, completed its pending write, and then made these moves.
  abbrev pub HasHelpedAnd : List Move → Seat B → Seat B → Type 0
  HasHelpedAnd more s u = HasLookedAnd (more ++ help_of (actor_of s).number (actor_of u).seen) s u

  -- A try of an update is a look, and then the update from that look.
  pub record IsTry (t : Terms) (edit : Edit) (result : Result Receipt Refusal) (s u : Seat B) : Type 0 where
    pub look : Actor
    pub looked : HasLooked t (actor_of s) look
    pub answers : LookedAnswers t look (actor_of u) edit result
    pub moves : HasLookedAnd (edit_moves t look edit result) s u

  -- A call that is refused ended at its look, because of the size there, or else at a load that found the word of a later update.
  abbrev pub EndsEarly : (ℕ → Type 0) → Seat B → Seat B → Refusal → Type 0
  EndsEarly Loads s u refusal =
      ((refusal ≡ OutOfRange (length (elements_of (actor_of u).seen))) × HasLookedAnd [] s u)
      ⊎ (IsOvertaken (actor_of u) refusal × (n : ℕ) × Loads n × HasHelpedAnd (loads_of n (actor_of s).number) s u)

  -- The moves of reading an element: one load after the look and the pending write.
  abbrev pub GetMoves : Seat B → Seat B → Result ReadElement Refusal → Type 0
  GetMoves s u (Ok read) = HasHelpedAnd (loads_of 1 (actor_of s).number) s u
  GetMoves s u (Err refusal) = EndsEarly (λ n. n ≡ 1) s u refusal

  -- The moves of a reduction by aggregates of this many parts: a load for each cell that it read, and for each aggregate a load of the block's
  -- mark and one of each part. There are further loads if a block's aggregate wasn't valid.
  abbrev pub ReduceMoves : {V : Type 0} → ℕ → Seat B → Seat B → Result (Answer V) Refusal → Type 0
  ReduceMoves parts s u (Ok answer) = (n : ℕ) × (answer.cells_read + answer.summaries_read * suc parts ≤ n) × HasHelpedAnd (loads_of n (actor_of s).number) s u
  ReduceMoves parts s u (Err refusal) = EndsEarly (λ n. 1 ≤ n) s u refusal

  -- The moves of a refresh: a load of the block's mark and of each of its eight cells, and then each part is installed.
  abbrev pub RefreshMoves : Terms → ℕ → Seat B → Seat B → Result Refreshed Refusal → Type 0
  RefreshMoves t b s u (Ok refreshed) = HasHelpedAnd (installs_of t (actor_of s).number b (actor_of u).seen t.folding.parts ++ loads_of 9 (actor_of s).number) s u
  RefreshMoves t b s u (Err refusal) = EndsEarly (λ n. (1 ≤ n) × (n ≤ 9)) s u refusal
